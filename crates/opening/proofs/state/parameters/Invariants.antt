-- what was found, and what the rest asks for, are all parameters
use Rattle.std.proofs.Common.{◌≡◌, ◌++◌}
use Rattle.chw_terms.specs.Unrolled.{parameters}
use Rattle.opening.proofs.state.parameters.Given as goal

abbrev pub invariant-loop-rest : goal.invariant-loop-rest
invariant-loop-rest l = l.params.items ++ parameters l.rest ≡ parameters l.ty
