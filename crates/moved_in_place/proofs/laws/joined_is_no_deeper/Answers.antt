use Rattle.moved_in_place.proofs.JoinedDepths.{instance_no_deeper}
use Rattle.moved_in_place.proofs.laws.joined_is_no_deeper.Goals as goal

pub returns : goal.returns
returns c o at e new h = instance_no_deeper h
