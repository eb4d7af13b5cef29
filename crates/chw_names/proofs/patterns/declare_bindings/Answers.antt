use Rattle.std.proofs.Common.{arith}
use Rattle.chw_names.specs.Twices.{binding_name}
use Rattle.chw_names.proofs.Steps.{declares_more, declares_all}
use Rattle.chw_names.proofs.patterns.declare_bindings.Goals as goal

pub loop-binding-preserved : goal.loop-binding-preserved
loop-binding-preserved c = declares_more binding_name c.args.bindings.now c.loop-binding.binding-index c.binding-item.result c.loop-binding-test.true c.binding-item.is c.loop-binding.invariant c.in_ok-declare.ensures

pub returns : goal.returns
returns c = declares_all binding_name c.args.bindings.now c.loop-binding.binding-index (omega (arith, c.loop-binding-test.false)) c.loop-binding.invariant
