-- the bits so far
use Rattle.std.proofs.Common.{◌≡◌, length, take}
use Rattle.chw_bits.specs.Bitwise.{bit_by_bit}
use Rattle.net_sim.specs.Operands.{bit_of_two}
use Rattle.net_sim.proofs.wide.bitwise.Given as goal

abbrev pub invariant-loop-i : goal.invariant-loop-i
invariant-loop-i l = (take l.i l.room ≡ take l.i (bit_by_bit (bit_of_two l.op) l.left l.right)) × (length l.room ≡ length l.fn.room)
