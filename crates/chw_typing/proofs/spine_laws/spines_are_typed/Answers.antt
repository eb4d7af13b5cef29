use Rattle.chw_typing.proofs.TypedSpines.{head_typed, spine_typed}
use Rattle.chw_typing.proofs.spine_laws.spines_are_typed.Goals as goal

pub returns : goal.returns
returns c = λ s kinds vars e args t. (head_typed s kinds vars e args t, λ h. spine_typed h.2 e h.1)
