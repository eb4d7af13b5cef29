use Rattle.chw_typing.proofs.TypedSpines.{head_changed}
use Rattle.chw_typing.proofs.spine_laws.heads_may_change.Goals as goal

pub returns : goal.returns
returns c = head_changed
