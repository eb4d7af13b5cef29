use Rattle.letrec_steps.proofs.Many.{steps_in_top_run, steps_of_top_run}
use Rattle.letrec_steps.proofs.laws.many_steps_in_tops.Goals as goal

pub returns : goal.returns
returns c = record { put = steps_in_top_run; top = steps_of_top_run }
