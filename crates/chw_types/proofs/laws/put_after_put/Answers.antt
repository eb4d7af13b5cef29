use Rattle.chw_types.proofs.TypeLaws.{put_put}
use Rattle.chw_types.proofs.laws.put_after_put.Goals as goal

pub returns : goal.returns
returns c t a b k d = put_put t a b k d
