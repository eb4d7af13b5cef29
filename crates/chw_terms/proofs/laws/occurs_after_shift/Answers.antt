use Rattle.chw_terms.proofs.OccursLaws.{occurs_shift, absent_shift}
use Rattle.chw_terms.proofs.laws.occurs_after_shift.Goals as goal

pub returns : goal.returns
returns c = record { along = occurs_shift; absent = absent_shift }
