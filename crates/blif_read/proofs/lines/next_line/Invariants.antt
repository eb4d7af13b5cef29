-- the lines that are left are all
use Rattle.std.proofs.Common.{◌≡◌, ◌≤◌, length}
use Rattle.blif_read.specs.Shown.{end_of, lines_left}
use Rattle.blif_read.proofs.lines.next_line.Given as goal

abbrev pub invariant-loop-rest : goal.invariant-loop-rest
invariant-loop-rest l = record {
  lines : lines_left l.rest ≡ lines_left l.fn.left;
  end : end_of l.rest ≤ end_of l.fn.left;
  shorter : length l.rest.text.now ≤ length l.fn.left.text.now;
}

abbrev pub decreases-loop-rest : goal.decreases-loop-rest
decreases-loop-rest l = length l.rest.text.now
