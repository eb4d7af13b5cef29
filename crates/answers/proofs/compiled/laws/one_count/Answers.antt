use Rattle.answers.proofs.Compilation.Once.{one_count}
use Rattle.answers.proofs.compiled.laws.one_count.Goals as goal

pub returns : goal.returns
returns c = one_count c.nothing_refuses_a_normal_run.ensures c.one_last_state.ensures
