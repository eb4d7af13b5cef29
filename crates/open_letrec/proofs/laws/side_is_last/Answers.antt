use Rattle.open_letrec.proofs.Wholes.{side_again, joined_again}
use Rattle.open_letrec.proofs.laws.side_is_last.Goals as goal

pub returns : goal.returns
returns c o e x cs = (side_again o e x, joined_again o e cs x)
