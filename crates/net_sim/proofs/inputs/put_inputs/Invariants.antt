-- the inputs so far, and the other words as they were
use Rattle.std.proofs.Common.{◌≡◌, ◌++◌, drop, take}
use Rattle.net_sim.proofs.inputs.put_inputs.Given as goal

abbrev pub invariant-loop-k : goal.invariant-loop-k
invariant-loop-k l = l.words ≡ take l.k l.inputs ++ drop l.k l.fn.words
