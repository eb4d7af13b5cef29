use Rattle.type_laws.proofs.PutSame.{same_put}
use Rattle.type_laws.proofs.laws.putting_all_keeps_same.Goals as goal

pub returns : goal.returns
returns c t u σ τ h g f = same_put h σ τ g f
