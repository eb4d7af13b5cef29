use Rattle.answers.proofs.SimAnswer.Once.{all_once}
use Rattle.answers.proofs.sim_answer.laws.one_meant.Goals as goal

pub returns : goal.returns
returns c p = all_once c.at_most_one_meaning.ensures.meaning c.encodings.ensures.one p
