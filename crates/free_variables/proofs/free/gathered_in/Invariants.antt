use Rattle.std.proofs.Common.{◌≡◌, take, nat_eq}
use Rattle.indexmap.specs.IndexSet.{insert_all}
use Rattle.free_variables.specs.Gathered.{numbers_of}
use Rattle.free_variables.proofs.free.gathered_in.Given as goal

abbrev pub invariant-loop-variable : goal.invariant-loop-variable
invariant-loop-variable l = l.seen.keys ≡ insert_all nat_eq l.initial.seen.keys (numbers_of (take l.variable-index l.variables))
