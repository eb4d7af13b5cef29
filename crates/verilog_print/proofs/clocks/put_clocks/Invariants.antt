-- what is written, with the clocks that are left, is all
use Rattle.std.proofs.Common.{◌≡◌, ◌++◌, drop, false, map, nat_lt}
use Rattle.verilog_text.specs.Text.{clock_names}
use Rattle.verilog_print.specs.Parts.{items_text}
use Rattle.verilog_print.specs.Roles.{port_in}
use Rattle.verilog_print.proofs.clocks.put_clocks.Given as goal

abbrev pub invariant-loop-number : goal.invariant-loop-number
invariant-loop-number l =
    l.out.items ++ items_text (nat_lt 0 l.number) (map (port_in l.role) (clock_names l.ports.resets l.number (drop l.number l.domain-items)))
    ≡ l.initial.out.items ++ items_text false (map (port_in l.role) (clock_names l.ports.resets 0 l.domain-items))
