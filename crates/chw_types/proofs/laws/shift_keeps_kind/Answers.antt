use Rattle.std.proofs.Common.{◌++◌, length}
use Rattle.chw_types.specs.TypeMoves.{raised}
use Rattle.chw_types.proofs.KindsKept.{kind_renamed, renames_shift}
use Rattle.chw_types.proofs.laws.shift_keeps_kind.Goals as goal

pub returns : goal.returns
returns c datas domains inner new outer t k d =
    kind_renamed d (raised (length inner) (length new)) (inner ++ new ++ outer) (renames_shift inner new outer)
