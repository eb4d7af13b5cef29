use Rattle.std.proofs.Common.{arith}
use Rattle.chw_names.specs.Twices.{constructor_of_alternative}
use Rattle.chw_names.proofs.Steps.{declares_more, declares_all}
use Rattle.chw_names.proofs.patterns.declare_constructors.Goals as goal

pub loop-alternative-preserved : goal.loop-alternative-preserved
loop-alternative-preserved c = declares_more constructor_of_alternative c.args.alternatives.now c.loop-alternative.alternative-index c.alternative-item.result c.loop-alternative-test.true c.alternative-item.is c.loop-alternative.invariant c.in_ok-declare_constructor.ensures

pub returns : goal.returns
returns c = declares_all constructor_of_alternative c.args.alternatives.now c.loop-alternative.alternative-index (omega (arith, c.loop-alternative-test.false)) c.loop-alternative.invariant
