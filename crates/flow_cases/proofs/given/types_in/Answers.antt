use Rattle.std.proofs.Common.{◌≡◌, ◌∙◌, ◌++◌, ◌∷◌, [], sym}
use Rattle.flow_cases.proofs.Just.{types_pushed, types_passed}
use Rattle.flow_cases.proofs.given.types_in.Goals as goal
use Rattle.flow_cases.proofs.given.types_in.Goals.{in-OfType+in_ok-copy-in-OfType+in_ok-push-in-OfType, in-OfTerm}

pub loop-arg-preserved : goal.loop-arg-preserved
loop-arg-preserved c =
    let args = c.args.args.now in
    let i = c.loop-arg.arg-index in
    elim c.match-arg.branch [
      | in-OfType+in_ok-copy-in-OfType+in_ok-push-in-OfType w ↦
          let kept : c.match-arg.types.items ≡ w.push.new.self.items = λ i. (w.types-is i).items in
          kept ∙ w.in_ok-push-in-OfType.ensures.items ∙ (λ i. c.loop-arg.invariant i ++ w.in_ok-copy-in-OfType.ensures i ∷ [])
          ∙ sym (types_pushed args i c.arg-item.result w.in-OfType.ty c.loop-arg-test.true c.arg-item.is w.in-OfType.is)
      | in-OfTerm w ↦
          let kept : c.match-arg.types.items ≡ c.loop-arg.types.items = λ i. (w.types-is i).items in
          kept ∙ c.loop-arg.invariant ∙ sym (types_passed args i c.arg-item.result w.in-OfTerm.field-0 c.loop-arg-test.true c.arg-item.is w.in-OfTerm.is)
    ]
