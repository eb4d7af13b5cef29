use Rattle.std.proofs.Common.{◌≡◌, ◌+◌}
use Rattle.rewriting.specs.Shapes.{leading_lambdas}
use Rattle.work_names.proofs.eta.lacks_lambdas.Given as goal

abbrev pub invariant-loop-param : goal.invariant-loop-param
invariant-loop-param l = leading_lambdas l.term ≡ l._param-index + leading_lambdas l.inner
