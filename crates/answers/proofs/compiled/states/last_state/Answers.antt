use Rattle.std.proofs.Common.{◌≡◌, length, subst, arith, vec_len}
use Rattle.answers.specs.Compilation.Compiling.{HasSteps}
use Rattle.answers.proofs.Compilation.Ends.{ends_there, run_fails, trace_within}
use Rattle.answers.proofs.compiled.states.last_state.Goals as goal

pub overflow_cast-result : goal.overflow_cast-result
overflow_cast-result c =
    let counted : vec_len c.run.new.trace ≡ length c.run.new.trace.items = omega (arith, c.run.new.trace.ok.0) in
    let few = trace_within c.new-trace.ensures.items c.in-Ok.ensures.runs in
    omega (arith, counted, few, c.len.ensures)

pub returns-in-Ok-clause-state : goal.returns-in-Ok-clause-state
returns-in-Ok-clause-state c =
    let counted : vec_len c.run.new.trace ≡ length c.run.new.trace.items = omega (arith, c.run.new.trace.ok.0) in
    let many : length c.run.new.trace.items ≡ c.len.result = omega (arith, counted, c.len.ensures) in
    subst (λ n. HasSteps c.args.program.now c.args.budget n c.in-Ok.made) many (ends_there c.new-trace.ensures.items c.in-Ok.ensures.runs)

pub returns-in-Err-Fault-clause-fault : goal.returns-in-Err-Fault-clause-fault
returns-in-Err-Fault-clause-fault c =
    run_fails c.args.program.now c.args.budget c.new-trace.result.items c.run.new.trace.items
    c.in-Err-Fault.field-0 c.in-Err-Fault.fault c.in-Err-Fault.field-0-is c.in-Err-Fault.ensures.runs
