use Rattle.std.proofs.Common.{subst}
use Rattle.verilog_text.specs.Text.{net_text}
use Rattle.verilog_text.specs.VText.{VText}
use Rattle.verilog_text.proofs.laws.one_net_printed.Goals as goal

pub returns : goal.returns
returns c = λ a b well well_too counted counted_too same.
    c.one_net.ensures (net_text b) a b (subst (λ t. VText t a) same (c.printed_text_denotes_its_net.ensures a well counted))
    (c.printed_text_denotes_its_net.ensures b well_too counted_too)
