use Rattle.std.proofs.Common.{◌≡◌, drop}
use Rattle.rewriting.specs.Calls.{to_lambdas}
use Rattle.specialise.specs.Closed.{numbers}
use Rattle.specialise.proofs.closing.to_lambda.Given as goal

abbrev pub invariant-loop-n : goal.invariant-loop-n
invariant-loop-n l =
    to_lambdas (numbers l.free) l.x ≡ to_lambdas (numbers (drop l.n l.free)) l.x
