use Rattle.chw_norm.specs.Rules.{built}
use Rattle.judge.specs.States.{RefusesState}
use Rattle.answers.proofs.Compilation.Ends.{is_entry, of_fault}
use Rattle.chw_cli.proofs.Normal.{refusal_refuses}
use Rattle.chw_cli.proofs.normalise.check_last.Goals as goal

pub judged-outcome-requires-clause-typed : goal.judged-outcome-requires-clause-typed
judged-outcome-requires-clause-typed c =
    let state =
    c.last_states_are_typed.ensures built c.args.program.now c.requires.run.0 c.args.made.now
    c.requires.tidy c.requires.typed c.requires.run.1 in
    record { tidy = state.tidy; typed = state.typed; made = state.each }

pub judged-outcome-requires-clause-entry : goal.judged-outcome-requires-clause-entry
judged-outcome-requires-clause-entry c =
    is_entry c.last_states_are_typed.ensures c.runs_begin_with_top.ensures c.requires.tidy
    c.requires.typed c.requires.run.1

pub returns-in-Err-Fault-clause-refused : goal.returns-in-Err-Fault-clause-refused
returns-in-Err-Fault-clause-refused c =
    let p = c.args.program.now in
    let made = c.args.made.now in
    refusal_refuses p made c.in-Err-Fault.fault c.refusal_of_state.result
    (of_fault (RefusesState p made) c.in-Err-Fault.field-0 c.in-Err-Fault.fault c.in-Err-Fault.field-0-is
    c.in-Err-Fault.ensures.fault)
    c.refusal_of_state.ensures
