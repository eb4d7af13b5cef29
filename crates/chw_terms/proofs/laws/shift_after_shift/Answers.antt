use Rattle.chw_terms.proofs.ShiftLaws.{shift_again, shift_shift}
use Rattle.chw_terms.proofs.laws.shift_after_shift.Goals as goal

pub returns : goal.returns
returns c = record { within = shift_again; apart = shift_shift }
