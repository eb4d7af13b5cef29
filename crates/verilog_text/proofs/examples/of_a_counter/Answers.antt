use Rattle.verilog_text.proofs.CounterShown.{counter_denoted}
use Rattle.verilog_text.proofs.examples.of_a_counter.Goals as goal

pub returns : goal.returns
returns c = counter_denoted c.printed_text_denotes_its_net.ensures
