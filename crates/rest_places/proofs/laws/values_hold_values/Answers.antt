use Rattle.rest_places.proofs.Values.{values_hold_values}
use Rattle.rest_places.proofs.laws.values_hold_values.Goals as goal

pub returns : goal.returns
returns c = values_hold_values
