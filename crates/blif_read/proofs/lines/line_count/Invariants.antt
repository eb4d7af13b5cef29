-- the lines so far, with those that are left
use Rattle.std.proofs.Common.{◌≡◌, ◌+◌, ◌≤◌, length}
use Rattle.stimulus.specs.Texts.{lines_of}
use Rattle.blif_read.proofs.lines.line_count.Given as goal

abbrev pub invariant-loop-behind : goal.invariant-loop-behind
invariant-loop-behind l = record {
  lines : l.rest.number + length (lines_of l.rest.text.now) ≡ length (lines_of l.text);
  fits : l.rest.number + length l.rest.text.now ≤ length l.text;
}

abbrev pub decreases-loop-behind : goal.decreases-loop-behind
decreases-loop-behind l = length l.rest.text.now
