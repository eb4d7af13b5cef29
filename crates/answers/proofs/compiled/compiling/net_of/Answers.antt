use Rattle.std.proofs.Common.{sym, subst}
use Rattle.judge.specs.States.{RefusesState}
use Rattle.answers.specs.Compilation.Compiling.{EndsIn}
use Rattle.answers.specs.Compilation.Compiling.IsCompileFault.{not_finished}
use Rattle.answers.proofs.Compilation.Ends.{of_fault}
use Rattle.answers.proofs.compiled.compiling.net_of.Goals as goal

pub returns-in-Err-Fault-clause-fault : goal.returns-in-Err-Fault-clause-fault
returns-in-Err-Fault-clause-fault c =
    let p = c.args.program.now in
    let state = c.list.result.now in
    not_finished state c.in-Err-Fault.fault (subst (EndsIn p c.args.budget) (sym c.list.ensures) c.in_ok-last.ensures.state.run)
    (of_fault (RefusesState p state) c.in-Err-Fault.field-0 c.in-Err-Fault.fault c.in-Err-Fault.field-0-is
    c.in-Err-Fault.ensures.fault)

pub returns-in-Ok-clause-counts : goal.returns-in-Ok-clause-counts
returns-in-Ok-clause-counts c = record {
  state = c.in_ok-last.last.made;
  has_steps = c.in_ok-last.ensures.state;
  as_many = sym c.len-definitions.ensures.len;
}
