use Rattle.std.proofs.Common.{◌≡◌, ◌+◌}
use Rattle.rewriting.specs.Shapes.{leading_lambdas}
use Rattle.specialise.proofs.lifted.has_lambdas.Given as goal

abbrev pub invariant-loop-lambda : goal.invariant-loop-lambda
invariant-loop-lambda l = leading_lambdas l.term ≡ l._lambda + leading_lambdas l.inner
