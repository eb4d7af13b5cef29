-- the new values so far, and the others as they were
use Rattle.std.proofs.Common.{◌≡◌, ◌++◌, drop, take}
use Rattle.waves.proofs.values.renew.Given as goal

abbrev pub invariant-loop-k : goal.invariant-loop-k
invariant-loop-k l = l.values ≡ take l.k l.new ++ drop l.k l.fn.values
