use Rattle.stimulus.proofs.Unique.{one_fault}
use Rattle.stimulus.proofs.laws.one_fault.Goals as goal

pub returns : goal.returns
returns c = one_fault
