use Rattle.type_laws.proofs.KindsExact.{kind_fits, kind_if_fits}
use Rattle.type_laws.proofs.laws.putting_all_keeps_kind_exactly.Goals as goal

pub returns : goal.returns
returns c datas domains scope scope' t σ k d h = ((λ e. kind_fits e), (λ f. kind_if_fits d σ scope' h f))
