-- the digits so far, with those that are left, are all, and the text has room for these
use Rattle.std.proofs.Common.{◌≡◌, ◌+◌, ◌-◌, ◌≤◌, ◌++◌, vec_len, vec_capacity}
use Rattle.chw_bits.specs.Bits.{number_of}
use Rattle.chw_bits.specs.Hex.{hex_of}
use Rattle.chw_bits.proofs.hex.put_digits.Given as goal

abbrev pub invariant-loop-i : goal.invariant-loop-i
invariant-loop-i l =
    (l.into.items ++ hex_of (l.count - l.i) (number_of l.bits) ≡ l.fn.into.items ++ hex_of l.count (number_of l.bits)) × (vec_len l.into + (l.count - l.i) ≤ vec_capacity l.into)
