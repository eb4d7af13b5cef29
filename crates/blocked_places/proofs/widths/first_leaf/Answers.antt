use Rattle.std.proofs.Common.{refl, ◌∙◌, subst, arith}
use Rattle.type_ports.specs.declared.ports.Leaf.{Leaf}
use Rattle.chw_types.specs.TypeTree.{TypeTree}
use Rattle.blocked_places.specs.Firsts.{FindsOf}
use Rattle.blocked_places.specs.Limits.{IsTooWide, IsLeafTooWide}
use Rattle.blocked_places.proofs.Firsts.{none_at_start, none_up_to_next, none_in_all, first_here}
use Rattle.blocked_places.proofs.widths.first_leaf.Goals as goal

pub loop-leaf-init : goal.loop-leaf-init
loop-leaf-init c = record { same = refl; none = none_at_start Leaf (IsLeafTooWide c.args.widths.now) c.args.leaves.now }

pub returns-in-Some-clause-limit : goal.returns-in-Some-clause-limit
returns-in-Some-clause-limit c =
    let datas = c.args.widths.now in
    let leaf = c.leaf-item.result in
    let so = c.loop-leaf.invariant in
    let here = subst (λ ds. FindsOf TypeTree (IsTooWide ds) leaf.payload c.in_ok-limit.field-0) so.same c.in_ok-limit.ensures.limit in
    let passes = subst (FindsOf TypeTree (IsTooWide datas) leaf.payload) c.in-Some.is here in
    first_here Leaf (IsLeafTooWide datas) c.args.leaves.now c.loop-leaf.leaf-index leaf c.in-Some.limit c.loop-leaf-test.true
    c.leaf-item.is passes so.none

pub loop-leaf-preserved : goal.loop-leaf-preserved
loop-leaf-preserved c =
    let datas = c.args.widths.now in
    let leaf = c.leaf-item.result in
    let so = c.loop-leaf.invariant in
    let here = subst (λ ds. FindsOf TypeTree (IsTooWide ds) leaf.payload c.in_ok-limit.field-0) so.same c.in_ok-limit.ensures.limit in
    let none = subst (FindsOf TypeTree (IsTooWide datas) leaf.payload) c.in_default.is here in
    record {
      same = c.too_wide.ensures.same ∙ so.same;
      none = none_up_to_next Leaf (IsLeafTooWide datas) c.args.leaves.now c.loop-leaf.leaf-index leaf c.loop-leaf-test.true
          c.leaf-item.is none so.none;
    }

pub returns-clause-limit : goal.returns-clause-limit
returns-clause-limit c =
    none_in_all Leaf (IsLeafTooWide c.args.widths.now) c.args.leaves.now c.loop-leaf.leaf-index
    (omega (arith, c.loop-leaf-test.false)) c.loop-leaf.invariant.none
