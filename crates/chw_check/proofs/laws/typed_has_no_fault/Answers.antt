use Rattle.chw_check.proofs.NoFault.{no_fault}
use Rattle.chw_check.proofs.laws.typed_has_no_fault.Goals as goal

pub returns : goal.returns
returns c = λ p fault tidy typed. no_fault p typed
