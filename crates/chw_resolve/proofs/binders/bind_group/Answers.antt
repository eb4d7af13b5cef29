use Rattle.std.proofs.Common.{ℕ, List, ◌∷◌, ◌∙◌, ap, arith}
use Rattle.chw_names.specs.Twices.{binding_name}
use Rattle.chw_names.proofs.Walking.{bound_more, bound_all}
use Rattle.chw_resolve.proofs.binders.bind_group.Goals as goal

pub loop-binding-preserved : goal.loop-binding-preserved
loop-binding-preserved c =
    bound_more binding_name c.args.bindings.now c.loop-binding.binding-index c.binding-item.result c.args.scope.now c.loop-binding-test.true c.binding-item.is c.loop-binding.invariant
    (c.in_ok-bind.ensures.bound ∙ ap (λ (n : List ℕ). n ∷ c.loop-binding.scope) c.as_slice.ensures)

pub returns : goal.returns
returns c = bound_all binding_name c.args.bindings.now c.loop-binding.binding-index c.args.scope.now (omega (arith, c.loop-binding-test.false)) c.loop-binding.invariant
