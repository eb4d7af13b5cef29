use Rattle.answers.specs.Compilation.Compiling.{HasManyWires}
use Rattle.answers.specs.Compilation.Compiling.IsNetFault.{too_large}
use Rattle.answers.proofs.Compilation.Ends.{of_fault}
use Rattle.answers.proofs.compiled.compiling.flat_of.Goals as goal

pub returns-in-Err-Fault-clause-fault : goal.returns-in-Err-Fault-clause-fault
returns-in-Err-Fault-clause-fault c =
    too_large
    (of_fault (λ _. HasManyWires c.args.net.now) c.in-Err-Fault.field-0 c.in-Err-Fault.field-0-0 c.in-Err-Fault.field-0-is
    c.in-Err-Fault.ensures.too_large)
