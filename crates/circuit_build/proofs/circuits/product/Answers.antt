use Rattle.std.proofs.Common.{◌∙◌}
use Rattle.std.proofs.lemmas.Result.{on_ok_weaker}
use Rattle.value_build.specs.InScope.{in_scope}
use Rattle.circuit_build.proofs.CircuitSides.{product_made}
use Rattle.circuit_build.proofs.circuits.product.Goals as goal

pub returns : goal.returns
returns c =
    on_ok_weaker c.copies.result
    (λ is ground k. product_made ground (in_scope c.args.scope.now) k c.deref.result.now c.args.args.now c.args.widths.now c.args.into.now c.copies.new.into
    (c.deref.ensures.value ∙ c.in_ok-wires.ensures) is)
    c.copies.ensures
