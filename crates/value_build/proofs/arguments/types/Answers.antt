use Rattle.std.proofs.Common.{arith, refl}
use Rattle.value_build.specs.Arguments.{types_in}
use Rattle.value_build.proofs.Operands.{so_far, all_so_far, types_first}
use Rattle.value_build.proofs.arguments.types.Goals as goal

pub loop-arg-preserved : goal.loop-arg-preserved
loop-arg-preserved c =
    so_far types_in c.args.args.now c.loop-arg.arg-index c.arg-item.result c.loop-arg.types.items c.add_type.new.types.items
    (types_in c.args.args.now) types_first c.loop-arg-test.true c.arg-item.is c.in_ok-add_type.ensures c.loop-arg.invariant

pub returns : goal.returns
returns c =
    all_so_far types_in c.args.args.now c.loop-arg.arg-index c.loop-arg.types.items
    (types_in c.args.args.now) refl (omega (arith, c.loop-arg-test.false)) c.loop-arg.invariant
