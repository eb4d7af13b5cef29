use Rattle.step_order.proofs.States.{places_stay}
use Rattle.step_order.proofs.laws.places_stay_behind.Goals as goal

pub returns : goal.returns
returns c = places_stay
