use Rattle.std.proofs.Common.{ℕ, Contains}
use Rattle.free_variables.specs.Gathered.{numbers_of}
use Rattle.letrec_runs.specs.Search.{KeepsSearch, ReachesVariable}
use Rattle.letrec_runs.proofs.reaching.note_all.Given as goal

abbrev pub invariant-loop-variable : goal.invariant-loop-variable
invariant-loop-variable l =
    KeepsSearch (λ g e. (v : ℕ) → Contains (numbers_of l.found) v → ReachesVariable g e v) l.initial.search l.search
