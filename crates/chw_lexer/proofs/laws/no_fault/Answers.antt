use Rattle.std.proofs.Common.{refl}
use Rattle.chw_lexer.proofs.Uniqueness.{no_fault}
use Rattle.chw_lexer.proofs.laws.no_fault.Goals as goal

pub returns : goal.returns
returns c = λ text tokens at splits fault. no_fault splits fault refl
