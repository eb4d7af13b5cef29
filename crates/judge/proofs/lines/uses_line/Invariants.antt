-- the made definitions so far are written
use Rattle.std.proofs.Common.{◌≡◌, ◌++◌, codes, take}
use Rattle.judge.specs.Lines.{made_texts}
use Rattle.judge.proofs.lines.uses_line.Given as goal

abbrev pub invariant-loop-made : goal.invariant-loop-made
invariant-loop-made l =
    l.line.items ≡ codes "chw: E13 recursion uses" ++ made_texts (take l.made-index l.cycle)
