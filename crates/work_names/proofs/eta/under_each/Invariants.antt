use Rattle.std.proofs.Common.{◌≡◌, length}
use Rattle.rewriting.specs.Origins.{under_each}
use Rattle.work_names.proofs.eta.under_each.Given as goal

abbrev pub invariant-loop-ty : goal.invariant-loop-ty
invariant-loop-ty l = under_each l.params.items l.done ≡ under_each l.fn.params.items l.fn.term

abbrev pub decreases-loop-ty : goal.decreases-loop-ty
decreases-loop-ty l = length l.params.items
