-- so for the types that were asked for so far
use Rattle.blocked_places.proofs.Given.{AreGivenSoFar}
use Rattle.blocked_places.proofs.types.types_given.Given as goal

abbrev pub invariant-loop-rest : goal.invariant-loop-rest
invariant-loop-rest l = AreGivenSoFar l.schema l.rest l.args l.types.items
