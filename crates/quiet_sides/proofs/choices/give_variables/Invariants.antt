use Rattle.quiet_sides.proofs.Loops.{HoldsBelow}
use Rattle.rewriting.specs.Shapes.{IsVariable}
use Rattle.quiet_sides.proofs.choices.give_variables.Given as goal

abbrev pub invariant-loop-alt : goal.invariant-loop-alt
invariant-loop-alt l = HoldsBelow (λ i a. IsVariable a.body) l.alts l.alt-index
