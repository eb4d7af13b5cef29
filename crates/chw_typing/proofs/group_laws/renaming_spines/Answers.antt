use Rattle.chw_typing.proofs.Exchanged.{spine_renamed}
use Rattle.chw_typing.proofs.group_laws.renaming_spines.Goals as goal

pub returns : goal.returns
returns c = spine_renamed
