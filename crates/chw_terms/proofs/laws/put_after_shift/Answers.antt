use Rattle.chw_terms.proofs.ShiftLaws.{put_shift}
use Rattle.chw_terms.proofs.laws.put_after_shift.Goals as goal

pub returns : goal.returns
returns c e a k = put_shift e a k
