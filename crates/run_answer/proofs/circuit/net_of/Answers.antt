use Rattle.run_answer.specs.Circuits.IsCircuitFault.{broken}
use Rattle.verilog_read.proofs.Told.{of_fault}
use Rattle.verilog_rules.specs.Faults.{IsVFault}
use Rattle.run_answer.proofs.circuit.net_of.Goals as goal

pub returns-in-Err-Fault-clause-fault : goal.returns-in-Err-Fault-clause-fault
returns-in-Err-Fault-clause-fault c =
    broken c.in-Err-Fault.fault
    (of_fault (IsVFault c.args.text.now) c.in-Err-Fault.field-0 c.in-Err-Fault.fault c.in-Err-Fault.field-0-is c.in-Err-Fault.ensures.fault)
