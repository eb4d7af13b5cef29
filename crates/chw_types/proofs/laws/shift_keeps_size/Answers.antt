use Rattle.chw_types.specs.TypeMoves.{raised}
use Rattle.chw_types.proofs.Rooms.{rename_keeps_depth, rename_keeps_parts}
use Rattle.chw_types.proofs.laws.shift_keeps_size.Goals as goal

pub returns : goal.returns
returns c = λ t d by. (rename_keeps_depth t (raised d by), rename_keeps_parts t (raised d by))
