-- the search passes over the parts so far
use Rattle.trials.specs.Trials.{built}
use Rattle.step_search.specs.Passed.{ArePassedParts}
use Rattle.step_search.proofs.passing.first_sought.Given as goal

abbrev pub invariant-loop-number : goal.invariant-loop-number
invariant-loop-number l = ArePassedParts built l.at l.from l.number
