-- so many zeros are put
use Rattle.std.proofs.Common.{◌≡◌, ◌++◌, replicate}
use Rattle.step_search.proofs.trail.with_path.Given as goal

abbrev pub invariant-loop : goal.invariant-loop
invariant-loop l = l.numbers.items ≡ l.initial.numbers.items ++ replicate l.counter 0
