use Rattle.std.proofs.Common.{◌∙◌, arith}
use Rattle.chw_resolve.specs.Programs.{parameter_kind}
use Rattle.chw_resolve.proofs.Lists.{made_more, made_all}
use Rattle.chw_resolve.proofs.declarations.kinds_in.Goals as goal

pub loop-parameter-preserved : goal.loop-parameter-preserved
loop-parameter-preserved c =
    c.in_ok-push.ensures.items ∙ made_more parameter_kind c.args.parameters.now c.loop-parameter.parameter-index c.parameter-item.result _ c.loop-parameter-test.true c.parameter-item.is c.loop-parameter.invariant c.kind_in.ensures

pub returns : goal.returns
returns c = made_all parameter_kind c.args.parameters.now c.loop-parameter.parameter-index (omega (arith, c.loop-parameter-test.false)) c.loop-parameter.invariant
