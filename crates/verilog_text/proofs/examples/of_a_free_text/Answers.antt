use Rattle.verilog_text.proofs.ExamplesShown.{free_text_denotes}
use Rattle.verilog_text.proofs.examples.of_a_free_text.Goals as goal

pub returns : goal.returns
returns c = free_text_denotes
