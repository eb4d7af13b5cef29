use Rattle.chw_types.proofs.TypeLaws.{put_shift}
use Rattle.chw_types.proofs.laws.put_after_shift.Goals as goal

pub returns : goal.returns
returns c t a k = put_shift t a k
