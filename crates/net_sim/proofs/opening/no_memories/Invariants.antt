-- the memories so far
use Rattle.std.proofs.Common.{◌≡◌, [], replicate}
use Rattle.net_sim.proofs.opening.no_memories.Given as goal

abbrev pub invariant-loop : goal.invariant-loop
invariant-loop l = l.memories.items ≡ replicate l.counter []
