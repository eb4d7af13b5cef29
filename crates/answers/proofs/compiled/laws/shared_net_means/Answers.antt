use Rattle.answers.proofs.Compilation.Shared.{shared_net_means}
use Rattle.answers.proofs.compiled.laws.shared_net_means.Goals as goal

pub returns : goal.returns
returns c = shared_net_means c.at_most_one_meaning.ensures.ports c.sharing_keeps_bits.ensures.outputs
