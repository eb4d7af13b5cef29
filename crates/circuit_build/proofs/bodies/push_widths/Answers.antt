use Rattle.std.proofs.Common.{◌++◌, arith, refl}
use Rattle.net_built.specs.Wires.{present}
use Rattle.value_build.proofs.Operands.{all_so_far}
use Rattle.circuit_build.proofs.bodies.push_widths.Goals as goal

pub returns : goal.returns
returns c =
    all_so_far present c.args.widths.now c.loop-w.w-index c.loop-w.inputs.items
    (c.args.inputs.now.items ++ present c.args.widths.now) refl (omega (arith, c.loop-w-test.false)) c.loop-w.invariant
