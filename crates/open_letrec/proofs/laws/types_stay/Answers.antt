use Rattle.std.proofs.Common.{length}
use Rattle.chw_types.specs.TypeMoves.{raised}
use Rattle.open_letrec.proofs.Types.{types_renamed, types_put, types_joined}
use Rattle.open_letrec.proofs.laws.types_stay.Goals as goal

pub returns : goal.returns
returns c o e cs x = (types_put e o.left, types_renamed (raised (length o.left) (length cs)) o.settled, types_joined o cs x)
