use Rattle.step_search.proofs.Watched.{two_places, one_place_once, nothing_to_see}
use Rattle.step_search.proofs.examples.of_looks.Goals as goal

pub returns : goal.returns
returns c = record { two = two_places; one = one_place_once; none = nothing_to_see }
