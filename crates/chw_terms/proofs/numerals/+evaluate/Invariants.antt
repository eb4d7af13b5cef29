use Rattle.std.proofs.Common.{◌≡◌, map, take}
use Rattle.chw_terms.specs.Evaluated.{evaluated}
use Rattle.chw_terms.proofs.numerals.+evaluate.Given as goal

abbrev pub invariant-loop-arg : goal.invariant-loop-arg
invariant-loop-arg l = l.done.items ≡ map evaluated (take l.arg-index l.arg-items)
