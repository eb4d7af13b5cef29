-- the number of the bits so far, or the most
use Rattle.std.proofs.Common.{◌≡◌, min, take}
use Rattle.chw_bits.specs.Bits.{number_of}
use Rattle.net_sim.proofs.wide.amount_of_bits.Given as goal

abbrev pub invariant-loop-bit : goal.invariant-loop-bit
invariant-loop-bit l = l.n ≡ min (number_of (take l.bit-index l.bits)) l.most
