-- the bits so far, with those that are left, are all
use Rattle.std.proofs.Common.{◌≡◌, ◌-◌, ◌++◌, length, take}
use Rattle.chw_bits.specs.Bits.{bits_of}
use Rattle.chw_bits.proofs.bits.Bits.put_number.Given as goal

abbrev pub invariant-loop-i : goal.invariant-loop-i
invariant-loop-i l =
    (length l.self-inside.bits.items ≡ l.width) × (take l.i l.self-inside.bits.items ++ bits_of (l.width - l.i) l.n ≡ bits_of l.width l.n)
