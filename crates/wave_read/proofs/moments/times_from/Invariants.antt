-- what is known once the times so far were read
use Rattle.std.proofs.Common.{◌≡◌, ◌+◌, ◌∷◌, length}
use Rattle.wave_read.specs.Reading.{end_of, waiting, words_in}
use Rattle.wave_read.specs.Shown.{count_of, times_of}
use Rattle.wave_text.specs.VcdText.{IsTime}
use Rattle.wave_text.specs.Words.{Word}
use Rattle.wave_read.proofs.Momenting.{Reached}
use Rattle.wave_read.proofs.moments.times_from.Given as goal

abbrev pub invariant-loop-next : goal.invariant-loop-next
invariant-loop-next l = record {
  reached : (w : Word) → IsTime w.bytes l.fn.first.time → w.at ≡ l.fn.first.at
      → Reached (end_of l.fn.left) (w ∷ words_in l.fn.left) (times_of l.moments.items l.changes.items) l.next (words_in l.rest);
  count : count_of l.moments.items ≡ length l.changes.items;
  end : end_of l.rest ≡ end_of l.fn.left;
}

abbrev pub decreases-loop-next : goal.decreases-loop-next
decreases-loop-next l = waiting l.next + length l.rest.text.now
