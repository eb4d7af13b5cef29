use Rattle.std.proofs.Common.{sym, ap, ◌∙◌, subst, arith}
use Rattle.chw_types.specs.TypeView.{tree_of, trees_of}
use Rattle.seen_types.specs.Keeping.{HasNoSums, HaveNoSums}
use Rattle.seen_types.proofs.EachItem.{each_next, each_all}
use Rattle.seen_types.proofs.NoSums.{no_sums_in_trees}
use Rattle.seen_types.proofs.kept.+has_no_sums.Goals as goal

pub loop-arg-preserved : goal.loop-arg-preserved
loop-arg-preserved t c =
    each_next HasNoSums c.deref-arg-items.result.now c.loop-arg.arg-index c.arg-item.result _ c.loop-arg-test.true c.arg-item.is c.loop-arg.invariant (c.has_no_sums.ensures c.if-not-has_no_sums.false)

pub returns-after-loop-arg : goal.returns-after-loop-arg
returns-after-loop-arg t c = λ _.
    let whole = ap tree_of (sym c.in-DataOf.is) ∙ c.ty.view_is in
    let each = each_all HasNoSums c.deref-arg-items.result.now c.loop-arg.arg-index (omega (arith, c.loop-arg-test.false)) c.loop-arg.invariant in
    subst HasNoSums whole (subst (λ ts. HaveNoSums (trees_of ts)) c.deref-arg-items.ensures.value (no_sums_in_trees c.deref-arg-items.result.now each))
