-- those that are to be left stay
use Rattle.std.proofs.Common.{◌≡◌, take, length}
use Rattle.active_parts.specs.Grounds.{with_variables}
use Rattle.active_parts.proofs.spare.leave_with_spare.Given as goal

abbrev pub invariant-loop-place : goal.invariant-loop-place
invariant-loop-place l =
    (l.place ≡ with_variables l.fn.place l.place.vars)
    × (take l.left l.place.vars ≡ take l.left l.fn.place.vars)

abbrev pub decreases-loop-place : goal.decreases-loop-place
decreases-loop-place l = length l.place.vars
