use Rattle.std.proofs.Common.{◌≡◌, map, take}
use Rattle.work_operands.specs.Named.{alt_under_one}
use Rattle.work_operands.proofs.parts.alts_under.Given as goal

abbrev pub invariant-loop-alt : goal.invariant-loop-alt
invariant-loop-alt l = l.made.items ≡ map alt_under_one (take l.alt-index l.alts)
