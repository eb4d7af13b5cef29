use Rattle.std.proofs.Common.{length, arith}
use Rattle.chw_lexer.proofs.Uniqueness.{in_order, lies_between}
use Rattle.chw_lexer.proofs.laws.tokens_lie_in.Goals as goal

pub returns : goal.returns
returns c = λ text tokens splits. lies_between 0 (length text) tokens (in_order splits (length text) (omega arith))
