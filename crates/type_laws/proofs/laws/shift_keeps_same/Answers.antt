use Rattle.chw_types.specs.TypeMoves.{raised}
use Rattle.type_laws.proofs.PutSame.{same_renamed}
use Rattle.type_laws.proofs.Shifted.{same_lowered}
use Rattle.type_laws.proofs.laws.shift_keeps_same.Goals as goal

pub returns : goal.returns
returns c t u x by = ((λ h. same_renamed h (raised x by)), (λ h. same_lowered t u x by h))
