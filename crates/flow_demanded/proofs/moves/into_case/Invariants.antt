use Rattle.std.proofs.Common.{◌≡◌, map, take}
use Rattle.flow_demanded.specs.Moves.{alt_on_arg}
use Rattle.flow_demanded.proofs.moves.into_case.Given as goal

abbrev pub invariant-loop-alt : goal.invariant-loop-alt
invariant-loop-alt l = l.done.items ≡ map (alt_on_arg l.which l.args l.at) (take l.alt-index l.of.alts.now)
