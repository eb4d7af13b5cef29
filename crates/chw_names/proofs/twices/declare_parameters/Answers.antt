use Rattle.std.proofs.Common.{arith}
use Rattle.chw_names.specs.Twices.{parameter_name}
use Rattle.chw_names.proofs.Steps.{declares_more, declares_all}
use Rattle.chw_names.proofs.twices.declare_parameters.Goals as goal

pub loop-parameter-preserved : goal.loop-parameter-preserved
loop-parameter-preserved c = declares_more parameter_name c.args.parameters.now c.loop-parameter.parameter-index c.parameter-item.result c.loop-parameter-test.true c.parameter-item.is c.loop-parameter.invariant c.in_ok-declare.ensures

pub returns : goal.returns
returns c = declares_all parameter_name c.args.parameters.now c.loop-parameter.parameter-index (omega (arith, c.loop-parameter-test.false)) c.loop-parameter.invariant
