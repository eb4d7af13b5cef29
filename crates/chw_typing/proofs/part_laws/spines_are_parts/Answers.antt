use Rattle.chw_typing.proofs.PartPlaces.{spine_is_part}
use Rattle.chw_typing.proofs.part_laws.spines_are_parts.Goals as goal

pub returns : goal.returns
returns c = λ e x path h. spine_is_part path e x h
