use Rattle.std.proofs.Common.{ℕ, List, ◌∷◌, ◌∙◌, ap, arith}
use Rattle.chw_names.specs.Twices.{parameter_name}
use Rattle.chw_names.proofs.Walking.{bound_more, bound_all}
use Rattle.chw_resolve.proofs.binders.bind_parameters.Goals as goal

pub loop-parameter-preserved : goal.loop-parameter-preserved
loop-parameter-preserved c =
    bound_more parameter_name c.args.parameters.now c.loop-parameter.parameter-index c.parameter-item.result c.args.scope.now c.loop-parameter-test.true c.parameter-item.is c.loop-parameter.invariant
    (c.in_ok-bind.ensures.bound ∙ ap (λ (n : List ℕ). n ∷ c.loop-parameter.scope) c.as_slice.ensures)

pub returns : goal.returns
returns c = bound_all parameter_name c.args.parameters.now c.loop-parameter.parameter-index c.args.scope.now (omega (arith, c.loop-parameter-test.false)) c.loop-parameter.invariant
