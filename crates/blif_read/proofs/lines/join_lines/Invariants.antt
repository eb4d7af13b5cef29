-- the words so far, before the lines that are left
use Rattle.std.proofs.Common.{◌≡◌, ◌≤◌, length}
use Rattle.blif_text.specs.Lines.{lines_from}
use Rattle.blif_read.specs.Shown.{end_of, lines_left}
use Rattle.stimulus.specs.Texts.{lines_of, texts}
use Rattle.blif_read.proofs.lines.join_lines.Given as goal

abbrev pub invariant-loop-line : goal.invariant-loop-line
invariant-loop-line l = record {
  lines : lines_left l.fn.left ≡ lines_from l.rest.number l.fn.left.number (texts l.words.items) (lines_of l.rest.text.now);
  end : end_of l.rest ≤ end_of l.fn.left;
  shorter : length l.rest.text.now ≤ length l.fn.left.text.now;
}

abbrev pub decreases-loop-line : goal.decreases-loop-line
decreases-loop-line l = length l.rest.text.now
