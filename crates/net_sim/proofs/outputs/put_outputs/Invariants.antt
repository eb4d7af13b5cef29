-- the outputs so far, and the others as they were
use Rattle.std.proofs.Common.{◌≡◌, ◌++◌, drop, take}
use Rattle.net_sim.specs.Tables.{values_in}
use Rattle.net_sim.proofs.outputs.put_outputs.Given as goal

abbrev pub invariant-loop-k : goal.invariant-loop-k
invariant-loop-k l = l.outputs ≡ take l.k (values_in l.words l.flat.outputs) ++ drop l.k l.fn.outputs
