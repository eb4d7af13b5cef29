-- the words that are left
use Rattle.std.proofs.Common.{◌≡◌, ◌≤◌, length}
use Rattle.blif_text.specs.Lines.{words_in}
use Rattle.blif_read.proofs.words.next_word.Given as goal

abbrev pub invariant-loop-rest : goal.invariant-loop-rest
invariant-loop-rest l = record {
  words : words_in l.rest.text.now ≡ words_in l.text;
  shorter : length l.rest.text.now ≤ length l.text;
}

abbrev pub decreases-loop-rest : goal.decreases-loop-rest
decreases-loop-rest l = length l.rest.text.now
