-- the places so far
use Rattle.net_sim.specs.Ticking.{HaveKeepers}
use Rattle.net_sim.proofs.opening.add_keepers.Given as goal

abbrev pub invariant-loop-place : goal.invariant-loop-place
invariant-loop-place l = HaveKeepers l.flat l.keepers l.place
