use Rattle.rest_places.proofs.Heads.{value_heads_go}
use Rattle.rest_places.proofs.laws.value_heads_go.Goals as goal

pub returns : goal.returns
returns c = let names = c.names_of_modes.ensures in value_heads_go names.decided names.kept c.nothing_unrolls.ensures
