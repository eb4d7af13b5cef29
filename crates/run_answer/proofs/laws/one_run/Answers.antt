use Rattle.run_answer.proofs.Runs.{same_run}
use Rattle.run_answer.proofs.laws.one_run.Goals as goal

pub returns : goal.returns
returns c = λ flat text a b sound r s. same_run c.a_wire_has_one_value.ensures flat sound c.one_stimulus.ensures text a b r s
