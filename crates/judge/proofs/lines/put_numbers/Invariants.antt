-- what is written, with the numbers that are left, is all
use Rattle.std.proofs.Common.{◌≡◌, ◌++◌, drop}
use Rattle.judge.specs.Lines.{number_texts}
use Rattle.judge.proofs.lines.put_numbers.Given as goal

abbrev pub invariant-loop-number : goal.invariant-loop-number
invariant-loop-number l =
    l.out.items ++ number_texts (drop l.number-index l.numbers)
    ≡ l.initial.out.items ++ number_texts l.numbers
