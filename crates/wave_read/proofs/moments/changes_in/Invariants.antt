-- the changes so far, before what is left
use Rattle.std.proofs.Common.{◌≡◌, ◌≤◌, length}
use Rattle.wave_read.specs.Reading.{FailsBehind, HasChanges, end_of, words_in}
use Rattle.wave_read.proofs.Itemizing.{Added}
use Rattle.wave_read.proofs.moments.changes_in.Given as goal

abbrev pub invariant-loop-change : goal.invariant-loop-change
invariant-loop-change l = record {
  added : Added (words_in l.fn.left) (words_in l.rest) l.initial.changes.items l.changes.items;
  fails : FailsBehind HasChanges HasChanges (end_of l.fn.left) (words_in l.rest) (words_in l.fn.left);
  end : end_of l.rest ≡ end_of l.fn.left;
  shorter : length l.rest.text.now ≤ length l.fn.left.text.now;
}

abbrev pub decreases-loop-change : goal.decreases-loop-change
decreases-loop-change l = length l.rest.text.now
