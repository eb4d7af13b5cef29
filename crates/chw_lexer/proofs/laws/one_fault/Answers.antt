use Rattle.std.proofs.Common.{sym, refl}
use Rattle.chw_lexer.proofs.Uniqueness.{one_fault}
use Rattle.chw_lexer.proofs.laws.one_fault.Goals as goal

pub returns : goal.returns
returns c = λ text a b first second. sym (one_fault first second refl refl)
