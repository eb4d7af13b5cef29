use Rattle.term_signs.proofs.Told.{signs_told}
use Rattle.term_signs.proofs.laws.signs_tell.Goals as goal

pub returns : goal.returns
returns c = signs_told
