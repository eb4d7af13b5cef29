-- what is written, with the lines of the made definitions that are left, is all
use Rattle.std.proofs.Common.{◌≡◌, ◌++◌, drop}
use Rattle.norm_lines.specs.Lines.{lines_from, made_line}
use Rattle.norm_lines.proofs.lines.put_made.Given as goal

abbrev pub invariant-loop-number : goal.invariant-loop-number
invariant-loop-number l =
    l.out.items ++ lines_from made_line l.number (drop l.number l.made)
    ≡ l.initial.out.items ++ lines_from made_line 0 l.made
