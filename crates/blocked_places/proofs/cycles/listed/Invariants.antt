-- so for the variables so far
use Rattle.std.proofs.Common.{map, take}
use Rattle.blocked_places.specs.Cycles.{AreOfVariables}
use Rattle.blocked_places.proofs.cycles.listed.Given as goal

abbrev pub invariant-loop-variable : goal.invariant-loop-variable
invariant-loop-variable l =
    AreOfVariables l.count l.flags (map (λ v. v.number) (take l.variable-index l.variables)) l.list.items
