use Rattle.std.proofs.Common.{◌++◌, length}
use Rattle.chw_types.specs.TypeMoves.{put_at}
use Rattle.type_laws.proofs.KindsExact.{kind_fits, kind_if_fits, put_at_kinds}
use Rattle.type_laws.proofs.laws.put_keeps_kind_exactly.Goals as goal

pub returns : goal.returns
returns c datas domains inner outer t a j k d e =
    ((λ h. kind_fits h), (λ f. kind_if_fits d (put_at (length inner) a) (inner ++ outer) (put_at_kinds datas domains inner outer a j e) f))
