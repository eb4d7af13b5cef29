use Rattle.std.proofs.Common.{ℕ, take, Contains}
use Rattle.free_variables.specs.Gathered.{numbers_of}
use Rattle.letrec_runs.proofs.keeping.are_in.Given as goal

abbrev pub invariant-loop-variable : goal.invariant-loop-variable
invariant-loop-variable l =
    (x : ℕ) → Contains (numbers_of (take l.variable-index l.found)) x → Contains l.set.keys x
