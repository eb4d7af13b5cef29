use Rattle.std.proofs.Common.{◌≡◌, ◌∙◌, ◌++◌, ◌∷◌, [], ap, sym, map, take}
use Rattle.std.proofs.lemmas.List.{map-append}
use Rattle.chw_terms.specs.TermMoves.{shift}
use Rattle.chw_terms.specs.TermTree.{TermTree}
use Rattle.flow_cases.specs.Given.{terms_in}
use Rattle.flow_cases.proofs.Just.{terms_pushed, terms_passed}
use Rattle.flow_cases.proofs.given.terms_under.Goals as goal
use Rattle.flow_cases.proofs.given.terms_under.Goals.{in-OfType, in-OfTerm+in_ok-shift-in-OfTerm+in_ok-push-in-OfTerm}

pub loop-arg-preserved : goal.loop-arg-preserved
loop-arg-preserved c =
    let under : TermTree → TermTree = λ e. shift e 0 c.args.by in
    let args = c.args.args.now in
    let i = c.loop-arg.arg-index in
    elim c.match-arg.branch [
      | in-OfType w ↦
          let kept : c.match-arg.terms.items ≡ c.loop-arg.terms.items = λ i. (w.terms-is i).items in
          kept ∙ c.loop-arg.invariant ∙ sym (ap (map under) (terms_passed args i c.arg-item.result w.in-OfType.field-0 c.loop-arg-test.true c.arg-item.is w.in-OfType.is))
      | in-OfTerm+in_ok-shift-in-OfTerm+in_ok-push-in-OfTerm w ↦
          let kept : c.match-arg.terms.items ≡ w.push.new.self.items = λ i. (w.terms-is i).items in
          kept ∙ w.in_ok-push-in-OfTerm.ensures.items ∙ (λ i. c.loop-arg.invariant i ++ w.in_ok-shift-in-OfTerm.ensures i ∷ [])
          ∙ sym (ap (map under) (terms_pushed args i c.arg-item.result w.in-OfTerm.e c.loop-arg-test.true c.arg-item.is w.in-OfTerm.is) ∙ map-append under (terms_in (take i args)) (w.in-OfTerm.e ∷ []))
    ]
