use Rattle.chw_types.specs.Arguments.{arguments}
use Rattle.type_laws.proofs.Arguing.{kinds_of_arguments}
use Rattle.type_laws.proofs.KindsExact.{kind_fits, kind_if_fits}
use Rattle.type_laws.proofs.laws.arguments_keep_kind_exactly.Goals as goal

pub returns : goal.returns
returns c datas domains scope params f ts k d ds =
    ((λ h. kind_fits h), (λ g. kind_if_fits d (arguments ts) scope (kinds_of_arguments datas domains scope params ts ds) g))
