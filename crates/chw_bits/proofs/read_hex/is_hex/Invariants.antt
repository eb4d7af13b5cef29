-- whether each byte so far is a digit
use Rattle.std.proofs.Common.{take, ◌↔◌}
use Rattle.std.specs.Bool.{IsTrue}
use Rattle.std.specs.Str.Parse.{AllDigits}
use Rattle.chw_bits.proofs.read_hex.is_hex.Given as goal

abbrev pub invariant-loop-byte : goal.invariant-loop-byte
invariant-loop-byte l = IsTrue l.all ↔ AllDigits 16 (take l.byte-index l.text)
