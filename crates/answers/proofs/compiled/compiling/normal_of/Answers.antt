use Rattle.std.proofs.Common.{refl}
use Rattle.answers.proofs.Compilation.Ends.{is_ended, is_entry, is_typed, leads}
use Rattle.answers.proofs.compiled.compiling.normal_of.Goals as goal

pub judge_state-outcome-requires-clause-typed : goal.judge_state-outcome-requires-clause-typed
judge_state-outcome-requires-clause-typed c =
    let t = is_typed c.last_states_are_typed.ensures c.requires.tidy c.requires.typed c.requires.state.1 in
    record { tidy = t.tidy; typed = t.typed; made = t.each }

pub judge_state-outcome-requires-clause-ended : goal.judge_state-outcome-requires-clause-ended
judge_state-outcome-requires-clause-ended c = is_ended c.requires.state.1

pub judge_state-outcome-requires-clause-entry : goal.judge_state-outcome-requires-clause-entry
judge_state-outcome-requires-clause-entry c =
    is_entry c.last_states_are_typed.ensures c.runs_begin_with_top.ensures c.requires.tidy
    c.requires.typed (leads refl c.requires.state.1.ends).0
