-- what the room had before the place, with the bits so far
use Rattle.std.proofs.Common.{◌≡◌, ◌+◌, ◌++◌, length, take}
use Rattle.chw_bits.specs.Bits.{bits_of}
use Rattle.net_sim.proofs.room.lay_number.Given as goal

abbrev pub invariant-loop-i : goal.invariant-loop-i
invariant-loop-i l = (take (l.at + l.i) l.room ≡ take l.at l.fn.room ++ take l.i (bits_of l.width l.n)) × (length l.room ≡ length l.fn.room)
