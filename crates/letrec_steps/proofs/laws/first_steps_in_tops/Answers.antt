use Rattle.letrec_steps.proofs.States.{first_in_top_is_first, side_is_first, letrec_is_first}
use Rattle.letrec_steps.proofs.laws.first_steps_in_tops.Goals as goal

pub returns : goal.returns
returns c = record {
  below = first_in_top_is_first;
  side = side_is_first;
  letrec = letrec_is_first;
}
