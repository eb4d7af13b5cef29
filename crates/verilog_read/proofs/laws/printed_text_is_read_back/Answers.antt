use Rattle.verilog_text.specs.Text.{net_text}
use Rattle.verilog_read.proofs.laws.printed_text_is_read_back.Goals as goal

-- src/laws.rt:14:1
pub returns-clause-net : goal.returns-clause-net
returns-clause-net c = λ net read w k v.
    c.one_net.ensures (net_text net) read net v (c.printed_text_denotes_its_net.ensures net w k)
