use Rattle.std.proofs.Common.{◌≡◌, take}
use Rattle.active_parts.proofs.spare.+is_tree.Given as goal

abbrev pub invariant-loop-i : goal.invariant-loop-i
invariant-loop-i l = take l.i l.t-items ≡ take l.i l.us.items
