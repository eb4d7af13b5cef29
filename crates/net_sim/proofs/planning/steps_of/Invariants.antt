-- the steps so far
use Rattle.net_sim.specs.Steps.{StepsBefore}
use Rattle.net_sim.proofs.planning.steps_of.Given as goal

abbrev pub invariant-loop-place : goal.invariant-loop-place
invariant-loop-place l = StepsBefore l.flat l.order.cells l.steps.items l.place-index
