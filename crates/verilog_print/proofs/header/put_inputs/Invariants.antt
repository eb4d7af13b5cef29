-- what is written, with the inputs that are left, is all
use Rattle.std.proofs.Common.{◌≡◌, ◌++◌, drop}
use Rattle.verilog_text.specs.Text.{input_item, numbered}
use Rattle.verilog_print.specs.Parts.{items_text}
use Rattle.verilog_print.specs.Scopes.{input_in}
use Rattle.verilog_print.proofs.header.put_inputs.Given as goal

abbrev pub invariant-loop-number : goal.invariant-loop-number
invariant-loop-number l =
    l.out.items ++ items_text l.before (numbered (λ k width. input_item width (input_in l.scope k)) l.number (drop l.number l.widths))
    ≡ l.initial.out.items ++ items_text l.after (numbered (λ k width. input_item width (input_in l.scope k)) 0 l.widths)
