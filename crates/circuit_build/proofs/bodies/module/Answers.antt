use Rattle.std.proofs.Common.{ap}
use Rattle.net_built.specs.Wires.{Piece}
use Rattle.value_build.specs.Added.{next}
use Rattle.circuit_build.proofs.bodies.module.Goals as goal

pub block-requires-clause-fresh : goal.block-requires-clause-fresh
block-requires-clause-fresh c = ap (λ (p : Piece). next p) c.in_ok-into.ensures
