-- what is marked is reached
use Rattle.chw_terms.specs.TermView.{group_of}
use Rattle.letrec_runs.specs.Search.{IsSearch}
use Rattle.letrec_runs.proofs.reaching.all_reached.Given as goal

abbrev pub invariant-loop : goal.invariant-loop
invariant-loop l = IsSearch (group_of l.group) l.body l.search
