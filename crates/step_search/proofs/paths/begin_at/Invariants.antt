-- so many zeros are behind
use Rattle.step_search.specs.Begins.{BeginsAt}
use Rattle.step_search.proofs.Begins.{zeros}
use Rattle.step_search.proofs.paths.begin_at.Given as goal

abbrev pub invariant-loop : goal.invariant-loop
invariant-loop l = BeginsAt (zeros l.counter) l.fn.from l.left
