use Rattle.open_letrec.proofs.Wholes.{side_there, side_with}
use Rattle.open_letrec.proofs.laws.side_is_part.Goals as goal

pub returns : goal.returns
returns c o b back x h = (side_there o b back h, side_with o b back x h)
