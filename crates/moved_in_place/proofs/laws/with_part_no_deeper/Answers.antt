use Rattle.moved_in_place.proofs.PartDepths.{depth_no_deeper}
use Rattle.moved_in_place.proofs.laws.with_part_no_deeper.Goals as goal

pub returns : goal.returns
returns c e x y path h d = depth_no_deeper path e x y h d
