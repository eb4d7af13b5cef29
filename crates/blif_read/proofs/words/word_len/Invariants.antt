-- no byte so far is a blank
use Rattle.std.proofs.Common.{◌≡◌, ℕ, ◌<◌, false, get_or}
use Rattle.blif_text.specs.Lines.{is_blank}
use Rattle.blif_read.proofs.words.word_len.Given as goal

abbrev pub invariant-loop-len : goal.invariant-loop-len
invariant-loop-len l = (k : ℕ) → k < l.len → is_blank (get_or l.text k 0) ≡ false
