use Rattle.chw_typing.proofs.PartPlaces.{spine_behind}
use Rattle.chw_typing.proofs.part_laws.spines_of_parts.Goals as goal

pub returns : goal.returns
returns c = λ e x p i q h. spine_behind p e x i q h
