use Rattle.rest_places.proofs.Sizes.{no_limit, sizes_within}
use Rattle.rest_places.proofs.laws.sizes_are_within.Goals as goal

pub returns : goal.returns
returns c = record { none = λ o at e t i l p. no_limit o at e t p i l; sizes = sizes_within }
