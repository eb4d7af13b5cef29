use Rattle.verilog_judge.proofs.Given.{are_read}
use Rattle.verilog_judge.proofs.laws.limited_texts_are_read.Goals as goal

pub returns : goal.returns
returns c = are_read
