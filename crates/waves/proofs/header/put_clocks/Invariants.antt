-- what is there, with the clocks that are left, is all
use Rattle.std.proofs.Common.{◌≡◌, ◌++◌, drop, map}
use Rattle.verilog_text.specs.Text.{clock_names}
use Rattle.waves.specs.Vcd.{signal}
use Rattle.waves.proofs.header.put_clocks.Given as goal

abbrev pub invariant-loop-number : goal.invariant-loop-number
invariant-loop-number l =
    l.into.items ++ map signal (clock_names l.ports.resets l.number (drop l.number l.domain-items))
    ≡ l.initial.into.items ++ map signal (clock_names l.ports.resets 0 l.domain-items)
