use Rattle.chw_terms.proofs.ShiftLaws.{put_put}
use Rattle.chw_terms.proofs.laws.put_after_put.Goals as goal

pub returns : goal.returns
returns c e a b k d = put_put e a b k d
