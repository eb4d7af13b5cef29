use Rattle.made_states.proofs.Behind.{any_sought, any_stays}
use Rattle.made_states.proofs.laws.any_step_stays_behind.Goals as goal

pub returns : goal.returns
returns c = record { stay = any_stays; sought = any_sought }
