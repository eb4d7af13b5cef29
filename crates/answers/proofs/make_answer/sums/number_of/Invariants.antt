use Rattle.std.proofs.Common.{◌≡◌, ◌%◌, ◌^◌, take}
use Rattle.chw_bits.specs.Bits.{number_of}
use Rattle.answers.proofs.make_answer.sums.number_of.Given as goal

-- the number of the bits read so far
abbrev pub invariant-loop-bit : goal.invariant-loop-bit
invariant-loop-bit l = l.number ≡ number_of (take l.bit-index l.bits) % 2 ^ 64
