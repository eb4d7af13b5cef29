use Rattle.std.proofs.Common.{◌≡◌, ◌≤◌}
use Rattle.chw_check.proofs.LeavesCounted.{Counted}
use Rattle.chw_check.proofs.counting.leaf_count.Given as goal
use Rattle.chw_types.proofs.Weights.{all_whole}

abbrev pub invariant-loop-next : goal.invariant-loop-next
invariant-loop-next l = (l.table ≡ l.initial.table) × Counted l.initial.table l.t l.count l.todo.items × (l.count ≤ l.most)

abbrev pub decreases-loop-next : goal.decreases-loop-next
decreases-loop-next l = all_whole l.initial.table l.todo.items
