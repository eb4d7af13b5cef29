-- the bits so far, with those that are left, are all
use Rattle.std.proofs.Common.{◌≡◌, ◌-◌, ◌++◌, take}
use Rattle.chw_bits.specs.Bits.{bits_of}
use Rattle.chw_bits.proofs.read_hex.put_few.Given as goal

abbrev pub invariant-loop-i : goal.invariant-loop-i
invariant-loop-i l = take l.i l.bits ++ bits_of (l.count - l.i) l.digit ≡ bits_of l.count l.digit
