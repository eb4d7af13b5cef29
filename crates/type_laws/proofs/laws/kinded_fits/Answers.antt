use Rattle.type_laws.proofs.KindsExact.{kind_fits}
use Rattle.type_laws.proofs.laws.kinded_fits.Goals as goal

pub returns : goal.returns
returns c datas domains scope t k d = kind_fits d
