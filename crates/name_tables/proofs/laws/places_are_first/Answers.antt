use Rattle.name_tables.proofs.Found.{place_is_first}
use Rattle.name_tables.proofs.laws.places_are_first.Goals as goal

pub returns : goal.returns
returns c = place_is_first
