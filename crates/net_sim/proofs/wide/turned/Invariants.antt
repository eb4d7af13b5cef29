-- the bits so far
use Rattle.std.proofs.Common.{◌≡◌, length, map, not, take}
use Rattle.net_sim.proofs.wide.turned.Given as goal

abbrev pub invariant-loop-i : goal.invariant-loop-i
invariant-loop-i l = (take l.i l.room ≡ map not (take l.i l.bits)) × (length l.room ≡ length l.fn.room)
