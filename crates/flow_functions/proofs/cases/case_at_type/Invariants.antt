use Rattle.std.proofs.Common.{◌≡◌, map, take}
use Rattle.flow_functions.specs.Moves.{at_type}
use Rattle.flow_functions.proofs.cases.case_at_type.Given as goal

abbrev pub invariant-loop-alt : goal.invariant-loop-alt
invariant-loop-alt l = l.done.items ≡ map (at_type l.ty) (take l.alt-index l.alts)
