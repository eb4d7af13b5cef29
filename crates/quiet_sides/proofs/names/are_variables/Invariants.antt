use Rattle.quiet_sides.proofs.Loops.{HoldsBelow}
use Rattle.rewriting.specs.Shapes.{IsVariable}
use Rattle.quiet_sides.proofs.names.are_variables.Given as goal

abbrev pub invariant-loop-element : goal.invariant-loop-element
invariant-loop-element l = HoldsBelow (λ i e. IsVariable e) l.elements l.element-index
