-- the bits so far, with those of the digits that are left, are all
use Rattle.std.proofs.Common.{◌≡◌, ◌+◌, ◌-◌, ◌*◌, ◌++◌, length, take}
use Rattle.std.specs.Str.Parse.{digits_value}
use Rattle.chw_bits.specs.Bits.{bits_of}
use Rattle.chw_bits.proofs.read_hex.put_text.Given as goal

abbrev pub invariant-loop-i : goal.invariant-loop-i
invariant-loop-i l =
    take (l.few + 4 * (l.i - 1)) l.bits ++ bits_of (4 * (length l.text - l.i)) (digits_value 16 l.text)
    ≡ bits_of (length l.fn.bits) (digits_value 16 l.text)
