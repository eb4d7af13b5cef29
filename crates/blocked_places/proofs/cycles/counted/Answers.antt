use Rattle.std.proofs.Common.{◌↔◌, ◌+◌, sym, subst, take, Bool, IsTrue, arith}
use Rattle.chw_terms.specs.declared.term.Binding.{Binding}
use Rattle.blocked_places.specs.Cycles.{Counts, AreCounted}
use Rattle.blocked_places.proofs.Related.{related_next, related_end}
use Rattle.blocked_places.proofs.cycles.counted.Goals as goal

pub loop-binding-preserved : goal.loop-binding-preserved
loop-binding-preserved c =
    let datas = c.args.datas.now in
    let mode = c.args.mode in
    let bs = c.args.bindings.now in
    let i = c.loop-binding.binding-index in
    subst (AreCounted datas mode (take (i + 1) bs)) (sym c.in_ok-push.ensures.items)
    (related_next (λ (b : Binding) (flag : Bool). IsTrue flag ↔ Counts datas mode b.ty) bs i c.binding-item.result
    c.loop-binding.flags.items c.in_ok-counts.field-0 c.loop-binding-test.true c.binding-item.is c.loop-binding.invariant
    c.in_ok-counts.ensures)

pub returns : goal.returns
returns c =
    let datas = c.args.datas.now in
    let mode = c.args.mode in
    related_end (λ (b : Binding) (flag : Bool). IsTrue flag ↔ Counts datas mode b.ty) c.args.bindings.now c.loop-binding.binding-index
    c.loop-binding.flags.items (omega (arith, c.loop-binding-test.false)) c.loop-binding.invariant
