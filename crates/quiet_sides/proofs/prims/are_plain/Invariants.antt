use Rattle.quiet_sides.specs.Quiet.{IsPlainArgument}
use Rattle.quiet_sides.specs.Tests.{IfTerm}
use Rattle.quiet_sides.proofs.Loops.{HoldsBelow}
use Rattle.quiet_sides.proofs.prims.are_plain.Given as goal

abbrev pub invariant-loop-i : goal.invariant-loop-i
invariant-loop-i l = HoldsBelow (λ i a. IfTerm (IsPlainArgument l.which i) a) l.args l.i
