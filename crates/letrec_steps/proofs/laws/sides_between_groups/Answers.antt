use Rattle.letrec_steps.proofs.Sides.{binding_between, quiet_front, quiet_of_front, side_is_put}
use Rattle.letrec_steps.proofs.laws.sides_between_groups.Goals as goal

pub returns : goal.returns
returns c = record {
  binding = binding_between;
  quiet = quiet_front;
  front = quiet_of_front;
  put = side_is_put;
}
