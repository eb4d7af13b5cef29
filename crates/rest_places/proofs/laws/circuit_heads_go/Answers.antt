use Rattle.rest_places.proofs.CircuitHeads.{circuit_heads_go}
use Rattle.rest_places.proofs.laws.circuit_heads_go.Goals as goal

pub returns : goal.returns
returns c = let names = c.names_of_modes.ensures in circuit_heads_go names.decided names.kept names.kind c.nothing_unrolls.ensures
