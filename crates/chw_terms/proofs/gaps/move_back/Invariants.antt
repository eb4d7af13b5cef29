-- the items stay, in order
use Rattle.std.proofs.Common.{◌≡◌, ◌++◌}
use Rattle.chw_terms.proofs.gaps.move_back.Given as goal

abbrev pub invariant-loop-before : goal.invariant-loop-before
invariant-loop-before g l =
    l.before.items ++ l.behind.items ≡ l.fn.before.items ++ l.fn.behind.items

abbrev pub decreases-loop-before : goal.decreases-loop-before
decreases-loop-before g l = goal.left-loop-before g l
