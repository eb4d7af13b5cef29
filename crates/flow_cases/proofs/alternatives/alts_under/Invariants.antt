use Rattle.std.proofs.Common.{◌≡◌, map, take}
use Rattle.flow_cases.specs.Moves.{alt_under}
use Rattle.flow_cases.proofs.alternatives.alts_under.Given as goal

abbrev pub invariant-loop-alt : goal.invariant-loop-alt
invariant-loop-alt l = l.done.items ≡ map (alt_under l.by) (take l.alt-index l.alts)
