use Rattle.std.proofs.Common.{◌≡◌, min, take}
use Rattle.chw_bits.specs.Bits.{number_of}
use Rattle.work_prims.proofs.elements.place_of.Given as goal

abbrev pub invariant-loop-bit : goal.invariant-loop-bit
invariant-loop-bit l = l.place ≡ min (number_of (take l.bit-index l.bits)) l.last
