use Rattle.std.proofs.Common.{arith, refl}
use Rattle.specialise.proofs.lifted.has_lambdas.Goals as goal

pub returns-in_default : goal.returns-in_default
returns-in_default c = (
  λ t. absurd cc,
  λ l. absurd (omega (
    arith,
    l,
    c.loop-lambda.invariant,
    c.in_default.ensures.none,
    c.loop-lambda-test.true,
  )),
)

pub returns : goal.returns
returns c = (
  λ t. omega (arith, c.loop-lambda.invariant, c.loop-lambda-test.false),
  λ l. refl,
)
