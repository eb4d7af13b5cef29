-- what is written, with the words that are left, is all
use Rattle.std.proofs.Common.{◌≡◌, ◌++◌, drop}
use Rattle.std.specs.List.{concat}
use Rattle.verilog_text.specs.Text.{initial_text, numbered}
use Rattle.verilog_print.proofs.memories.put_initial_words.Given as goal

abbrev pub invariant-loop-number : goal.invariant-loop-number
invariant-loop-number l =
    l.out.items ++ concat (numbered (initial_text l.wire) l.number (drop l.number l.words))
    ≡ l.initial.out.items ++ concat (numbered (initial_text l.wire) 0 l.words)
