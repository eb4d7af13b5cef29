use Rattle.chw_typing.proofs.TermsPut.{bound_put}
use Rattle.chw_typing.proofs.typed_part_laws.putting_keeps_groups.Goals as goal

pub returns : goal.returns
returns c s kinds vars vars' k g σ h typed typed' b p = bound_put b h typed σ vars' typed' p
