-- where the tasks that are left lead, all uses are visited, and each task is of a made definition
-- that is there
use Rattle.std.proofs.Common.{◌≡◌, ℕ, List, [], length}
use Rattle.chw_types.specs.declared.declarations.Data.{Data}
use Rattle.net_built.specs.Modules.{AllVisited}
use Rattle.net_build.specs.Outputs.{AreOutputMarks}
use Rattle.net_build.specs.Tasks.{in_turn, Leads, TasksAreBelow}
use Rattle.net_build.specs.Turns.{turns}
use Rattle.net_build.proofs.order.used_first.Given as goal

abbrev pub invariant-loop-task : goal.invariant-loop-task
invariant-loop-task l =
    ((datas : List Data) → AreOutputMarks datas l.made l.has
    → (end : List ℕ) → Leads datas l.made (in_turn l.todo.items) l.placed.order end → AllVisited datas l.made [] l.uses end)
    × TasksAreBelow (length l.made) (in_turn l.todo.items)
    × (l.placed.count ≡ length l.made)

abbrev pub decreases-loop-task : goal.decreases-loop-task
decreases-loop-task l = turns l.made (in_turn l.todo.items)
