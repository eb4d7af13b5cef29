use Rattle.answers.proofs.SimAnswer.Meant.{outputs_are_meant}
use Rattle.answers.proofs.sim_answer.laws.outputs_are_meant.Goals as goal

pub returns : goal.returns
returns c = outputs_are_meant c.a_wire_has_one_value.ensures c.zero_exists.ensures.of_width
