use Rattle.chw_typing.proofs.Asked.{spine_takes, con_takes}
use Rattle.chw_typing.proofs.spine_laws.spines_are_saturated.Goals as goal

pub returns : goal.returns
returns c = record { spine = spine_takes; con = con_takes }
