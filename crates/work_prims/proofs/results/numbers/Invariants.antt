use Rattle.std.proofs.Common.{◌≡◌, map, take}
use Rattle.chw_types.specs.TypeTree.{nat_lit}
use Rattle.chw_terms.specs.Evaluated.{evaluated}
use Rattle.work_prims.proofs.results.numbers.Given as goal

abbrev pub invariant-loop-ty : goal.invariant-loop-ty
invariant-loop-ty l = map evaluated (take l.ty-index l.types) ≡ map (λ n. nat_lit n) l.done.items
