use Rattle.stimulus.proofs.Unique.{no_fault}
use Rattle.stimulus.proofs.laws.no_fault.Goals as goal

pub returns : goal.returns
returns c = no_fault
