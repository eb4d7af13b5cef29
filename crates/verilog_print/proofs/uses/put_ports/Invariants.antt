-- what is written, with the ports that are left, is all
use Rattle.std.proofs.Common.{◌≡◌, ◌++◌, decimal, drop}
use Rattle.verilog_text.specs.Text.{name_in, numbered, port_text}
use Rattle.verilog_print.specs.Parts.{items_text}
use Rattle.verilog_print.specs.Scopes.{scope_of}
use Rattle.verilog_print.proofs.uses.put_ports.Given as goal

abbrev pub invariant-loop-number : goal.invariant-loop-number
invariant-loop-number l =
    l.out.items ++ items_text l.before (numbered (λ k w. port_text (l.word ++ decimal k) (name_in (scope_of l.scope) w)) l.number (drop l.number l.wires))
    ≡ l.initial.out.items ++ items_text l.after (numbered (λ k w. port_text (l.word ++ decimal k) (name_in (scope_of l.scope) w)) 0 l.wires)
