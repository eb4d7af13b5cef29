use Rattle.step_order.proofs.States.{steps_sought, steps_stay}
use Rattle.step_order.proofs.laws.steps_stay_behind.Goals as goal

pub returns : goal.returns
returns c = record { stay = steps_stay; sought = steps_sought }
