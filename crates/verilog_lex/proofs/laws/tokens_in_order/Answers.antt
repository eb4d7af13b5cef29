use Rattle.std.proofs.Common.{arith}
use Rattle.verilog_lex.proofs.Tokens.{in_order}
use Rattle.verilog_lex.proofs.laws.tokens_in_order.Goals as goal

pub returns : goal.returns
returns c = λ text tokens splits. in_order splits _ (omega arith)
