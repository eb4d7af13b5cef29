use Rattle.rest_places.proofs.Unrolled.{can_unroll}
use Rattle.rest_places.proofs.laws.unrolls.Goals as goal

pub returns : goal.returns
returns c = can_unroll
