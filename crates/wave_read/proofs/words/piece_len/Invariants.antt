-- no byte so far is white
use Rattle.std.proofs.Common.{◌≡◌, ℕ, ◌<◌, false, get_or}
use Rattle.verilog_text.specs.VTokens.{is_white}
use Rattle.wave_read.proofs.words.piece_len.Given as goal

abbrev pub invariant-loop-len : goal.invariant-loop-len
invariant-loop-len l = (k : ℕ) → k < l.len → is_white (get_or l.text k 0) ≡ false
