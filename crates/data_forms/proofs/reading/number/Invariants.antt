-- the number of the bits read so far
use Rattle.std.proofs.Common.{◌≡◌, take}
use Rattle.chw_bits.specs.Bits.{number_of}
use Rattle.data_forms.proofs.reading.number.Given as goal

abbrev pub invariant-loop-bit : goal.invariant-loop-bit
invariant-loop-bit l = l.n ≡ number_of (take l.bit-index l.bits)
