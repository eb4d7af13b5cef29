-- the lists so far
use Rattle.std.proofs.Common.{◌≡◌, [], replicate}
use Rattle.net_sim.proofs.opening.no_keepers.Given as goal

abbrev pub invariant-loop : goal.invariant-loop
invariant-loop l = l.keepers.items ≡ replicate l.counter []
