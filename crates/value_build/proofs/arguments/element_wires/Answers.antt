use Rattle.std.proofs.Common.{◌∙◌, ◌++◌, arith, refl, sym, ap}
use Rattle.net_built.specs.Terms.{wires_of_all}
use Rattle.value_build.specs.InScope.{in_scope}
use Rattle.value_build.proofs.Operands.{so_far, all_so_far, wires_first, one_wires}
use Rattle.value_build.proofs.arguments.element_wires.Goals as goal

pub loop-e-preserved : goal.loop-e-preserved
loop-e-preserved c =
    let scope = in_scope c.args.scope.now in
    so_far (wires_of_all scope) c.args.elements.now c.loop-e.e-index c.e-item.result c.loop-e.wires.items c.extend_from_slice.new.self.items
    (wires_of_all scope c.args.elements.now) (wires_first scope) c.loop-e-test.true c.e-item.is
    (c.in_ok-extend_from_slice.ensures.items ∙ ap (λ ws. c.loop-e.wires.items ++ ws) (c.wires_of.ensures ∙ sym (one_wires scope c.e-item.result))) c.loop-e.invariant

pub returns : goal.returns
returns c =
    let scope = in_scope c.args.scope.now in
    all_so_far (wires_of_all scope) c.args.elements.now c.loop-e.e-index c.loop-e.wires.items
    (wires_of_all scope c.args.elements.now) refl (omega (arith, c.loop-e-test.false)) c.loop-e.invariant
