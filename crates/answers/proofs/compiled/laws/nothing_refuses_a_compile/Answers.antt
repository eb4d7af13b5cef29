use Rattle.answers.proofs.Compilation.Once.{compiled_ends_small, nothing_refuses}
use Rattle.answers.proofs.compiled.laws.nothing_refuses_a_compile.Goals as goal

pub returns-clause-refused : goal.returns-clause-refused
returns-clause-refused c =
    nothing_refuses c.nothing_refuses_a_normal_run.ensures c.one_last_state.ensures

pub returns-clause-compiled : goal.returns-clause-compiled
returns-clause-compiled c = compiled_ends_small c.one_net_built.ensures c.one_flat_net.ensures
