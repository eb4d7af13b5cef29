use Rattle.std.proofs.Common.{◌∙◌, ◌++◌, ◌∷◌, [], sym}
use Rattle.letrec_runs.proofs.Loops.{declared_more}
use Rattle.letrec_runs.proofs.scope.types_of.Goals as goal

pub loop-binding-preserved : goal.loop-binding-preserved
loop-binding-preserved c =
    c.in_ok-push.ensures.items
    ∙ (λ i. c.loop-binding.invariant i ++ c.in_ok-copy.ensures i ∷ [])
    ∙ sym (declared_more c.args.group.now c.loop-binding.binding-index c.binding-item.result c.loop-binding-test.true c.binding-item.is)
