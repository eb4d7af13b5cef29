use Rattle.verilog_judge.proofs.Given.{are_meant}
use Rattle.verilog_judge.proofs.laws.checked_texts_are_meant.Goals as goal

pub returns : goal.returns
returns c = are_meant
