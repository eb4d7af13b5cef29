use Rattle.rest_places.proofs.Applied.{not_applied}
use Rattle.rest_places.proofs.laws.not_applied.Goals as goal

pub returns : goal.returns
returns c = not_applied
