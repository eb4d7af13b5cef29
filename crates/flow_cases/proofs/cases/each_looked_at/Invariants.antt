use Rattle.std.proofs.Common.{◌≡◌, map, take}
use Rattle.flow_cases.specs.Moves.{looked_at}
use Rattle.flow_cases.proofs.cases.each_looked_at.Given as goal

abbrev pub invariant-loop-alt : goal.invariant-loop-alt
invariant-loop-alt l = l.done.items ≡ map (looked_at l.outer) (take l.alt-index l.inner)
