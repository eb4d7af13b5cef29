use Rattle.answers.proofs.Compilation.There.{small_ends_compile}
use Rattle.answers.proofs.compiled.laws.small_ends_compile.Goals as goal

pub returns : goal.returns
returns c =
    small_ends_compile c.last_states_are_typed.ensures c.none_is_stuck.ensures.state
    c.finished_states_have_nets.ensures.runs
