use Rattle.moved_in_place.proofs.PutBack.{put_back}
use Rattle.moved_in_place.proofs.laws.swapped_back.Goals as goal

pub returns : goal.returns
returns c old x new y z last w path put h g = put_back old x new y z last w path put h g
