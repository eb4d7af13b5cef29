use Rattle.std.proofs.Common.{sym, ◌∙◌}
use Rattle.verilog_text.proofs.OneSource.{one_source}
use Rattle.verilog_text.proofs.laws.one_source.Goals as goal

pub returns : goal.returns
returns c = λ tokens a b first second. one_source a b (sym first ∙ second)
