-- what is written, with the lines of the steps that are left, is all
use Rattle.std.proofs.Common.{◌≡◌, ◌++◌, drop, map}
use Rattle.norm_lines.specs.Places.{where_of}
use Rattle.norm_lines.specs.Lines.{lines_from, step_line}
use Rattle.norm_lines.proofs.lines.put_steps.Given as goal

abbrev pub invariant-loop-number : goal.invariant-loop-number
invariant-loop-number l =
    l.out.items ++ lines_from step_line l.number (map where_of (drop l.number l.trace))
    ≡ l.initial.out.items ++ lines_from step_line 0 (map where_of l.trace)
