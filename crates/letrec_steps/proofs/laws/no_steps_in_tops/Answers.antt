use Rattle.letrec_steps.proofs.States.{none_in_top, quiet_top_has_none, none_before_next}
use Rattle.letrec_steps.proofs.laws.no_steps_in_tops.Goals as goal

pub returns : goal.returns
returns c = record { below = none_in_top; letrec = quiet_top_has_none; next = none_before_next }
