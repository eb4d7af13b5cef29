use Rattle.std.proofs.Common.{◌≡◌, ◌++◌, map, take}
use Rattle.chw_terms.specs.Evaluated.{evaluated}
use Rattle.prim_vec.proofs.sizes.push_evaluated.Given as goal

abbrev pub invariant-loop-t : goal.invariant-loop-t
invariant-loop-t l = l.done.items ≡ l.initial.done.items ++ map evaluated (take l.t-index l.types)
