use Rattle.verilog_text.proofs.OneNet.{one_net}
use Rattle.verilog_text.proofs.laws.one_net.Goals as goal

pub returns : goal.returns
returns c = one_net c.same_number_same_bits.ensures
