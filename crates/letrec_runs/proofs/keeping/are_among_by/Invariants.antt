use Rattle.std.proofs.Common.{◌≡◌, take, nat_eq}
use Rattle.indexmap.specs.IndexSet.{insert_all}
use Rattle.free_variables.specs.Gathered.{numbers_of}
use Rattle.letrec_runs.proofs.keeping.are_among_by.Given as goal

abbrev pub invariant-loop-variable : goal.invariant-loop-variable
invariant-loop-variable l =
    l.set.keys ≡ insert_all nat_eq l.initial.set.keys (numbers_of (take l.variable-index l.those))
