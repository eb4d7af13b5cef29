use Rattle.answers.proofs.Compilation.Once.{one_compiled}
use Rattle.answers.proofs.compiled.laws.one_compiled.Goals as goal

pub returns : goal.returns
returns c = one_compiled c.one_last_state.ensures c.one_net_built.ensures c.one_flat_net.ensures
