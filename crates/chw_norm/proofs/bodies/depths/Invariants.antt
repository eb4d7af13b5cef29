-- so many bodies have their bounds
use Rattle.chw_norm.proofs.Changed.{HaveBounds}
use Rattle.chw_norm.proofs.bodies.depths.Given as goal

abbrev pub invariant-loop-it : goal.invariant-loop-it
invariant-loop-it l = HaveBounds l.made l.depths.items l.it-index
