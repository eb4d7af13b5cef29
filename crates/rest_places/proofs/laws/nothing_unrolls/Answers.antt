use Rattle.rest_places.proofs.Rolled.{no_unrolled}
use Rattle.rest_places.proofs.laws.nothing_unrolls.Goals as goal

pub returns : goal.returns
returns c = no_unrolled
