-- what is written, with the assignments that are left, is all
use Rattle.std.proofs.Common.{◌≡◌, ◌++◌, drop}
use Rattle.std.specs.List.{concat}
use Rattle.verilog_text.specs.Text.{assign_line, name_in, numbered}
use Rattle.verilog_print.specs.Scopes.{output_in, scope_of}
use Rattle.verilog_print.proofs.printer.put_output_lines.Given as goal

abbrev pub invariant-loop-number : goal.invariant-loop-number
invariant-loop-number l =
    l.out.items ++ concat (numbered (λ k w. assign_line (output_in l.scope k) (name_in (scope_of l.scope) w)) l.number (drop l.number l.outputs))
    ≡ l.initial.out.items ++ concat (numbered (λ k w. assign_line (output_in l.scope k) (name_in (scope_of l.scope) w)) 0 l.outputs)
