use Rattle.rest_places.proofs.Applied.{no_definition, no_made_definition}
use Rattle.rest_places.proofs.laws.not_a_name.Goals as goal

pub returns : goal.returns
returns c = record { definition = no_definition; made = no_made_definition }
