-- the first so many stand among those
use Rattle.std.proofs.Common.{◌≤◌, ℕ, length, take, Contains}
use Rattle.free_variables.specs.Gathered.{numbers_of}
use Rattle.letrec_runs.proofs.keeping.are_in_order.Given as goal

abbrev pub invariant-loop-variable : goal.invariant-loop-variable
invariant-loop-variable l = record {
  within : l.next ≤ length l.found;
  there : (x : ℕ) → Contains (numbers_of (take l.next l.found)) x → Contains (numbers_of l.those) x;
}
