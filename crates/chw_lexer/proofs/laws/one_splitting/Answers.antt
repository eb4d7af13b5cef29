use Rattle.std.proofs.Common.{sym, refl}
use Rattle.chw_lexer.proofs.Uniqueness.{one_splitting}
use Rattle.chw_lexer.proofs.laws.one_splitting.Goals as goal

pub returns : goal.returns
returns c = λ text a b first second. sym (one_splitting first second refl refl)
