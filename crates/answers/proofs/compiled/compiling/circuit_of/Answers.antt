use Rattle.netlist.specs.Orders.{IsLoop}
use Rattle.netlist.specs.declared.net.Loop.{Loop}
use Rattle.answers.specs.Compilation.Compiling.IsNetFault.{loops}
use Rattle.answers.proofs.Compilation.Ends.{of_fault}
use Rattle.answers.proofs.compiled.compiling.circuit_of.Goals as goal

pub returns-in-Err-Fault-clause-fault : goal.returns-in-Err-Fault-clause-fault
returns-in-Err-Fault-clause-fault c =
    let flat = c.in_ok-flat.flat in
    loops flat c.in-Err-Fault.field-0-0.cycle c.in_ok-flat.ensures.flat c.in_ok-flat.ensures.few
    (of_fault (λ (l : Loop). IsLoop flat l.cycle) c.in-Err-Fault.field-0 c.in-Err-Fault.field-0-0 c.in-Err-Fault.field-0-is
    c.in-Err-Fault.ensures.loop_)
