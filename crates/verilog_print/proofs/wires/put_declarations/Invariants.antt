-- what is written, with the declarations that are left, is all
use Rattle.std.proofs.Common.{◌≡◌, ◌++◌, drop}
use Rattle.std.specs.List.{concat}
use Rattle.netlist.specs.Wires.{driver}
use Rattle.verilog_text.specs.Text.{declaration, numbered}
use Rattle.verilog_print.proofs.wires.put_declarations.Given as goal

abbrev pub invariant-loop-wire : goal.invariant-loop-wire
invariant-loop-wire l =
    l.out.items ++ concat (numbered (λ k width. declaration (driver l.cells k) k width) l.wire (drop l.wire l.widths))
    ≡ l.initial.out.items ++ concat (numbered (λ k width. declaration (driver l.cells k) k width) l.initial.wire (drop l.initial.wire l.widths))
