use Rattle.run_answer.specs.Circuits.{HasManyWires}
use Rattle.run_answer.specs.Circuits.IsCircuitFault.{too_large}
use Rattle.verilog_read.proofs.Told.{of_fault}
use Rattle.run_answer.proofs.circuit.flat_of.Goals as goal

pub returns-in-Err-Fault-clause-fault : goal.returns-in-Err-Fault-clause-fault
returns-in-Err-Fault-clause-fault c =
    let net = c.in_ok-net.net in
    too_large net c.in_ok-net.ensures.net
    (of_fault (λ _. HasManyWires net) c.in-Err-Fault.field-0 c.in-Err-Fault.field-0-0 c.in-Err-Fault.field-0-is c.in-Err-Fault.ensures.too_large)
