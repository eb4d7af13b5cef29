use Rattle.chw_cli.proofs.Emitting.{fault_refuses}
use Rattle.answers.proofs.Compilation.Ends.{of_fault}
use Rattle.answers.specs.Compilation.Compiling.{IsCompileFault}
use Rattle.chw_cli.proofs.compile.compiled_of.Goals as goal

pub returns-in-Err-Fault-clause-refused : goal.returns-in-Err-Fault-clause-refused
returns-in-Err-Fault-clause-refused c =
    let p = c.args.program.now in
    fault_refuses p c.args.budget c.in-Err-Fault.fault c.refusal_of_compile.result
    (of_fault (IsCompileFault p c.args.budget) c.in-Err-Fault.field-0 c.in-Err-Fault.fault c.in-Err-Fault.field-0-is
    c.in-Err-Fault.ensures.fault)
    c.refusal_of_compile.ensures
