use Rattle.letrec_steps.proofs.Below.{first_on_is_first, side_is_first_below}
use Rattle.letrec_steps.proofs.laws.first_below_letrecs.Goals as goal

pub returns : goal.returns
returns c = record { term = first_on_is_first; side = side_is_first_below }
