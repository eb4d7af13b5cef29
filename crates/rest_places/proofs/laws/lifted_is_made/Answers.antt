use Rattle.rest_places.proofs.Lifted.{lifted_is_made}
use Rattle.rest_places.proofs.laws.lifted_is_made.Goals as goal

pub returns : goal.returns
returns c = let names = c.names_of_modes.ensures in λ o at e d b n named. lifted_is_made names.decided names.kept names.kind o named at e d b n
