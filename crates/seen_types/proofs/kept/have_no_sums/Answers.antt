use Rattle.std.proofs.Common.{arith}
use Rattle.seen_types.proofs.EachItem.{each_next, each_all}
use Rattle.seen_types.specs.Keeping.{HasNoSums}
use Rattle.seen_types.proofs.kept.have_no_sums.Goals as goal

pub loop-ty-preserved : goal.loop-ty-preserved
loop-ty-preserved c =
    each_next HasNoSums c.args.types.now c.loop-ty.ty-index c.ty-item.result _ c.loop-ty-test.true c.ty-item.is c.loop-ty.invariant (c.has_no_sums.ensures c.if-not-has_no_sums.false)

pub returns : goal.returns
returns c = λ _. each_all HasNoSums c.args.types.now c.loop-ty.ty-index (omega (arith, c.loop-ty-test.false)) c.loop-ty.invariant
