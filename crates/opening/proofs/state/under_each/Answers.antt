use Rattle.std.proofs.Common.{◌∙◌, ap, sym, arith}
use Rattle.std.proofs.lemmas.List.{nil_from_length}
use Rattle.rewriting.specs.Origins.{under_each}
use Rattle.opening.proofs.Building.{under_last}
use Rattle.opening.proofs.state.under_each.Goals as goal

pub loop-ty-preserved : goal.loop-ty-preserved
loop-ty-preserved c =
    let left = c.pop.new.self.items in
    let done = c.loop-ty.done in
    ap (under_each left) c.in_ok-done.ensures ∙ sym (under_last left c.in-Some.ty done)
    ∙ ap (λ ts. under_each ts done) (sym c.in-Some.ensures.items) ∙ c.loop-ty.invariant

pub returns : goal.returns
returns c =
    let left = c.loop-ty.params in
    let none =
    nil_from_length left.items (omega (arith, c.in_default.ensures.cases.0, left.ok.0)) in
    sym (ap (λ ts. under_each ts c.loop-ty.done) none) ∙ c.loop-ty.invariant
