-- the items stay, in order, and not too many are before the gap
use Rattle.std.proofs.Common.{◌≡◌, ◌≤◌, ◌++◌, length}
use Rattle.chw_terms.proofs.gaps.move_up.Given as goal

abbrev pub invariant-loop-behind : goal.invariant-loop-behind
invariant-loop-behind g l =
    (l.before.items ++ l.behind.items ≡ l.fn.before.items ++ l.fn.behind.items)
    × (length l.before.items ≤ l.at)

abbrev pub decreases-loop-behind : goal.decreases-loop-behind
decreases-loop-behind g l = length l.behind.items
