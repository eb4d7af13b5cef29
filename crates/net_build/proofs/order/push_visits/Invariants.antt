-- the visits so far, with those that are left, are all
use Rattle.std.proofs.Common.{◌≡◌, ◌++◌, take}
use Rattle.net_build.specs.Tasks.{in_turn, visits}
use Rattle.net_build.proofs.order.push_visits.Given as goal

abbrev pub invariant-loop-i : goal.invariant-loop-i
invariant-loop-i l = visits (take l.i l.uses) ++ in_turn l.todo.items ≡ visits l.uses ++ in_turn l.initial.todo.items
