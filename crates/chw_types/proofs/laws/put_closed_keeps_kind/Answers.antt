use Rattle.std.proofs.Common.{◌++◌, length}
use Rattle.chw_types.specs.TypeMoves.{put_at}
use Rattle.chw_types.proofs.KindsKept.{kind_put, puts_put, closed_anywhere, closed_small}
use Rattle.chw_types.proofs.laws.put_closed_keeps_kind.Goals as goal

pub returns : goal.returns
returns c datas domains inner outer t a j k d e =
    kind_put d (put_at (length inner) a) (inner ++ outer) (puts_put datas domains inner outer a j (closed_anywhere e outer) (closed_small e))
