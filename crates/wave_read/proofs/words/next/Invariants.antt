-- the words that are left, and where they end
use Rattle.std.proofs.Common.{◌≡◌, ◌+◌, ◌≤◌, length}
use Rattle.wave_text.specs.Words.{words_from}
use Rattle.wave_read.proofs.words.next.Given as goal

abbrev pub invariant-loop-rest : goal.invariant-loop-rest
invariant-loop-rest l = record {
  words : words_from l.rest.at l.rest.text.now ≡ words_from l.fn.left.at l.fn.left.text.now;
  end : l.rest.at + length l.rest.text.now ≡ l.fn.left.at + length l.fn.left.text.now;
  shorter : length l.rest.text.now ≤ length l.fn.left.text.now;
}

abbrev pub decreases-loop-rest : goal.decreases-loop-rest
decreases-loop-rest l = length l.rest.text.now
