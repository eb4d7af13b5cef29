-- what is written, with the clocks that are left, is all
use Rattle.std.proofs.Common.{◌≡◌, ◌++◌, drop}
use Rattle.verilog_text.specs.Text.{clock_names}
use Rattle.blif_text.specs.Printed.{spaced}
use Rattle.blif_text.proofs.header.put_clocks.Given as goal

abbrev pub invariant-loop-number : goal.invariant-loop-number
invariant-loop-number l =
    l.out.items ++ spaced (clock_names l.ports.resets l.number (drop l.number l.domain-items))
    ≡ l.initial.out.items ++ spaced (clock_names l.ports.resets 0 l.domain-items)
