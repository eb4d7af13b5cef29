use Rattle.run_answer.proofs.Runs.{same_flat}
use Rattle.run_answer.proofs.laws.one_flat_net_of_a_text.Goals as goal

pub returns : goal.returns
returns c = same_flat c.one_net.ensures c.one_flat_net.ensures
