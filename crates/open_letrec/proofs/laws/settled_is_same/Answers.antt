use Rattle.open_letrec.proofs.Wholes.{settled_same}
use Rattle.open_letrec.proofs.laws.settled_is_same.Goals as goal

pub returns : goal.returns
returns c o = settled_same o
