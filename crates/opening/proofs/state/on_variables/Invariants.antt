-- on what is left, the term so far is the whole
use Rattle.std.proofs.Common.{◌≡◌}
use Rattle.rewriting.specs.Origins.{on_variables}
use Rattle.opening.proofs.state.on_variables.Given as goal

abbrev pub invariant-loop-number : goal.invariant-loop-number
invariant-loop-number l = on_variables l.done 0 l.number ≡ on_variables l.fn.term 0 l.count
