use Rattle.chw_typing.proofs.PathParts.{part_behind, with_part_behind}
use Rattle.chw_typing.proofs.path_laws.parts_of_parts.Goals as goal

pub returns : goal.returns
returns c = record { found = λ e p q. part_behind p e q; changed = λ e x y p q. with_part_behind p e x y q }
