use Rattle.std.proofs.Common.{◌++◌, length}
use Rattle.chw_types.specs.TypeMoves.{put_at}
use Rattle.chw_types.proofs.KindsFound.{one_kind}
use Rattle.type_laws.proofs.KindsExact.{kind_fits, kind_if_fits, put_at_kinds}
use Rattle.type_laws.proofs.laws.put_has_no_other_kind.Goals as goal

pub returns : goal.returns
returns c datas domains inner outer t a i j k d e h =
    one_kind h (kind_if_fits d (put_at (length inner) a) (inner ++ outer) (put_at_kinds datas domains inner outer a j e) (kind_fits h))
