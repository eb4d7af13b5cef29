use Rattle.std.proofs.Common.{arith, refl}
use Rattle.net_built.specs.Terms.{wires_of_all}
use Rattle.value_build.specs.Arguments.{terms_in}
use Rattle.value_build.specs.InScope.{in_scope}
use Rattle.value_build.proofs.Operands.{so_far, all_so_far, operands_first}
use Rattle.value_build.proofs.arguments.operand_wires.Goals as goal

pub loop-arg-preserved : goal.loop-arg-preserved
loop-arg-preserved c =
    let scope = in_scope c.args.scope.now in
    so_far (λ xs. wires_of_all scope (terms_in xs)) c.args.args.now c.loop-arg.arg-index c.arg-item.result c.loop-arg.wires.items c.add_operand.new.wires.items
    (wires_of_all scope (terms_in c.args.args.now)) (operands_first scope) c.loop-arg-test.true c.arg-item.is c.in_ok-add_operand.ensures c.loop-arg.invariant

pub returns : goal.returns
returns c =
    let scope = in_scope c.args.scope.now in
    all_so_far (λ xs. wires_of_all scope (terms_in xs)) c.args.args.now c.loop-arg.arg-index c.loop-arg.wires.items
    (wires_of_all scope (terms_in c.args.args.now)) refl (omega (arith, c.loop-arg-test.false)) c.loop-arg.invariant
