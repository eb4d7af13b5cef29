use Rattle.std.proofs.Common.{arith, refl}
use Rattle.work_names.proofs.eta.lacks_lambdas.Goals as goal

pub returns-in_default : goal.returns-in_default
returns-in_default c = (λ t. omega (arith, c.loop-param.invariant, c.in_default.ensures.none, c.loop-param-test.true), λ l. refl)

pub returns : goal.returns
returns c = (λ t. absurd cc, λ l. absurd (omega (arith, l, c.loop-param.invariant, c.loop-param-test.false)))
