use Rattle.chw_typing.proofs.TypedSpines.{kind_kept}
use Rattle.chw_typing.proofs.spine_laws.spines_keep_kinds.Goals as goal

pub returns : goal.returns
returns c = λ s kinds vars u args t k d r. kind_kept r k d
