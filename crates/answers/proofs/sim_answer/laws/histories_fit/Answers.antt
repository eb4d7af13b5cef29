use Rattle.answers.proofs.SimAnswer.Histories.{histories_fit}
use Rattle.answers.proofs.sim_answer.laws.histories_fit.Goals as goal

pub returns : goal.returns
returns c = histories_fit c.zero_exists.ensures.of_width
