use Rattle.std.proofs.Common.{◌≡◌}
use Rattle.chw_types.proofs.Weights.{all_whole}
use Rattle.type_ports.proofs.LeavesFound.{Searching}
use Rattle.type_ports.proofs.ports.leaves_by.Given as goal

abbrev pub invariant-loop-next : goal.invariant-loop-next
invariant-loop-next l = (l.table ≡ l.initial.table) × Searching l.initial.table l.t l.found.items l.todo.items

abbrev pub decreases-loop-next : goal.decreases-loop-next
decreases-loop-next l = all_whole l.initial.table l.todo.items
