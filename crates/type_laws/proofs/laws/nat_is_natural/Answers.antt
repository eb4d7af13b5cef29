use Rattle.std.proofs.Common.{refl}
use Rattle.type_laws.proofs.OneKind.{nat_natural}
use Rattle.type_laws.proofs.laws.nat_is_natural.Goals as goal

pub returns : goal.returns
returns c datas domains scope t of d = nat_natural of d refl
