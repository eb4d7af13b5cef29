use Rattle.quiet_sides.proofs.Loops.{HoldsBelow}
use Rattle.rewriting.specs.Shapes.{IsVariable}
use Rattle.quiet_sides.specs.Tests.{IfTerm}
use Rattle.quiet_sides.proofs.names.are_names.Given as goal

abbrev pub invariant-loop-arg : goal.invariant-loop-arg
invariant-loop-arg l = HoldsBelow (λ i a. IfTerm IsVariable a) l.args l.arg-index
