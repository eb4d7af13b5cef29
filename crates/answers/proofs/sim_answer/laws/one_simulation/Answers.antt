use Rattle.answers.proofs.SimAnswer.Once.{one_simulation}
use Rattle.answers.proofs.sim_answer.laws.one_simulation.Goals as goal

pub returns : goal.returns
returns c = one_simulation c.at_most_one_meaning.ensures.ports c.at_most_one_meaning.ensures.meaning c.encodings.ensures.one c.one_stimulus.ensures
