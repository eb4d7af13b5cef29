use Rattle.std.proofs.Common.{arith}
use Rattle.chw_lexer.proofs.Uniqueness.{in_order}
use Rattle.chw_lexer.proofs.laws.tokens_in_order.Goals as goal

pub returns : goal.returns
returns c = λ text tokens splits. in_order splits _ (omega arith)
