use Rattle.std.proofs.Common.{take}
use Rattle.seen_types.specs.Each.{Each}
use Rattle.seen_types.specs.Keeping.{HasNoSums}
use Rattle.seen_types.proofs.kept.have_no_sums.Given as goal

abbrev pub invariant-loop-ty : goal.invariant-loop-ty
invariant-loop-ty l = Each HasNoSums (take l.ty-index l.types)
