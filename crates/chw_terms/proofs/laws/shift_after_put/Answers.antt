use Rattle.chw_terms.proofs.ShiftLaws.{shift_put, shift_below_put}
use Rattle.chw_terms.proofs.laws.shift_after_put.Goals as goal

pub returns : goal.returns
returns c = record { above = shift_put; below = shift_below_put }
