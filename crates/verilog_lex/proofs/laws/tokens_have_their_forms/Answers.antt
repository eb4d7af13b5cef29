use Rattle.verilog_lex.proofs.Tokens.{have_forms}
use Rattle.verilog_lex.proofs.laws.tokens_have_their_forms.Goals as goal

pub returns : goal.returns
returns c = λ text tokens splits. have_forms splits
