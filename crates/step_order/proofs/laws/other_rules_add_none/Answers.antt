use Rattle.step_order.proofs.States.{adds_none}
use Rattle.step_order.proofs.laws.other_rules_add_none.Goals as goal

pub returns : goal.returns
returns c = adds_none
