-- what is written, with the outputs that are left, is all
use Rattle.std.proofs.Common.{◌≡◌, ◌++◌, drop}
use Rattle.verilog_text.specs.Text.{numbered, output_item, width_in}
use Rattle.verilog_print.specs.Parts.{items_text}
use Rattle.verilog_print.specs.Scopes.{output_in}
use Rattle.verilog_print.proofs.header.put_outputs.Given as goal

abbrev pub invariant-loop-number : goal.invariant-loop-number
invariant-loop-number l =
    l.out.items ++ items_text l.before (numbered (λ k w. output_item (width_in l.body w) (output_in l.scope k)) l.number (drop l.number l.body.outputs))
    ≡ l.initial.out.items ++ items_text l.after (numbered (λ k w. output_item (width_in l.body w) (output_in l.scope k)) 0 l.body.outputs)
