-- what the room had before the place, with the bits so far
use Rattle.std.proofs.Common.{◌≡◌, ◌+◌, ◌++◌, length, replicate, take}
use Rattle.net_sim.proofs.room.fill.Given as goal

abbrev pub invariant-loop-i : goal.invariant-loop-i
invariant-loop-i l = (take (l.at + l.i) l.room ≡ take l.at l.fn.room ++ replicate l.i l.bit) × (length l.room ≡ length l.fn.room)
