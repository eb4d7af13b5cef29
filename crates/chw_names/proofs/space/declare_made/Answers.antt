use Rattle.std.proofs.Common.{arith}
use Rattle.chw_names.specs.Globals.{constructor_name}
use Rattle.chw_names.proofs.Steps.{declares_more, declares_all}
use Rattle.chw_names.proofs.space.declare_made.Goals as goal

pub loop-constructor-preserved : goal.loop-constructor-preserved
loop-constructor-preserved c = declares_more constructor_name c.args.constructors.now c.loop-constructor.constructor-index c.constructor-item.result c.loop-constructor-test.true c.constructor-item.is c.loop-constructor.invariant c.in_ok-declare.ensures

pub returns : goal.returns
returns c = declares_all constructor_name c.args.constructors.now c.loop-constructor.constructor-index (omega (arith, c.loop-constructor-test.false)) c.loop-constructor.invariant
