-- what is written, with the lines that are left, is all
use Rattle.std.proofs.Common.{◌≡◌, ◌++◌, drop}
use Rattle.std.specs.List.{concat}
use Rattle.verilog_text.specs.Text.{cell_line, numbered}
use Rattle.verilog_print.specs.Scopes.{scope_of}
use Rattle.verilog_print.proofs.printer.put_cells.Given as goal

abbrev pub invariant-loop-place : goal.invariant-loop-place
invariant-loop-place l =
    l.out.items ++ concat (numbered (cell_line (scope_of l.scope)) l.place (drop l.place l.cells))
    ≡ l.initial.out.items ++ concat (numbered (cell_line (scope_of l.scope)) 0 l.cells)
