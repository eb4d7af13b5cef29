use Rattle.std.proofs.Common.{arith}
use Rattle.seen_types.proofs.EachItem.{each_next, each_all}
use Rattle.seen_types.specs.Keeping.{IsLinear}
use Rattle.seen_types.proofs.kept.are_linear.Goals as goal

pub loop-ty-preserved : goal.loop-ty-preserved
loop-ty-preserved c =
    each_next IsLinear c.args.types.now c.loop-ty.ty-index c.ty-item.result _ c.loop-ty-test.true c.ty-item.is c.loop-ty.invariant (omega (arith, c.degree.ensures, c.if-degree-gt1.false))

pub returns : goal.returns
returns c = λ _. each_all IsLinear c.args.types.now c.loop-ty.ty-index (omega (arith, c.loop-ty-test.false)) c.loop-ty.invariant
