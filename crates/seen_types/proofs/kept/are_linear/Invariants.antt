use Rattle.std.proofs.Common.{take}
use Rattle.seen_types.specs.Each.{Each}
use Rattle.seen_types.specs.Keeping.{IsLinear}
use Rattle.seen_types.proofs.kept.are_linear.Given as goal

abbrev pub invariant-loop-ty : goal.invariant-loop-ty
invariant-loop-ty l = Each IsLinear (take l.ty-index l.types)
