use Rattle.std.proofs.Common.{◌≡◌, take}
use Rattle.work_prims.specs.Given.{as_args}
use Rattle.work_prims.proofs.given.copy_terms.Given as goal

abbrev pub invariant-loop-arg : goal.invariant-loop-arg
invariant-loop-arg l = take l.arg-index l.args ≡ as_args l.terms.items
