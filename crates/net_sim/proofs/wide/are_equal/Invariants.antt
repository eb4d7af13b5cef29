-- the bits so far are the same
use Rattle.std.proofs.Common.{◌≡◌, take}
use Rattle.net_sim.proofs.wide.are_equal.Given as goal

abbrev pub invariant-loop-i : goal.invariant-loop-i
invariant-loop-i l = take l.i l.left ≡ take l.i l.right
