use Rattle.answers.proofs.SimAnswer.ReadBack.{waves_are_read}
use Rattle.answers.proofs.sim_answer.laws.waves_are_read.Goals as goal

pub returns : goal.returns
returns c =
    waves_are_read c.last_states_are_typed.ensures c.ports_are_kept.ensures c.encoding_width.ensures c.printed_waves_are_read.ensures c.waves_have_the_values.ensures.before
    c.waves_have_the_values.ensures.edges
