-- the words so far, with those that are left
use Rattle.std.proofs.Common.{◌≡◌, ◌++◌, length}
use Rattle.blif_text.specs.Lines.{words_in}
use Rattle.stimulus.specs.Texts.{texts}
use Rattle.blif_read.proofs.words.put_words.Given as goal

abbrev pub invariant-loop-word : goal.invariant-loop-word
invariant-loop-word l = texts l.words.items ++ words_in l.rest.text.now ≡ texts l.fn.words.items ++ words_in l.text

abbrev pub decreases-loop-word : goal.decreases-loop-word
decreases-loop-word l = length l.rest.text.now
