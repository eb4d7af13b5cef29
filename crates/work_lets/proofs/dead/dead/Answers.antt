use Rattle.std.proofs.Common.{◌≡◌, ◌∙◌, ◌⊎◌, sym, ap, subst, refl, false, [], length, Contains}
use Rattle.std.proofs.lemmas.Bool.{true≢false}
use Rattle.chw_terms.specs.declared.rule.Rule.TheVariants.{Dead}
use Rattle.chw_terms.specs.TermTree.{letrec}
use Rattle.chw_terms.specs.TermView.{group_of, tree_of}
use Rattle.chw_terms.proofs.TermLists.{size_of_group}
use Rattle.rewriting.specs.Spots.{spot_of}
use Rattle.rewriting.specs.Lets.{OfLets, MarksReached, kept}
use Rattle.work_lets.proofs.Marked.{all_reached, some_go}
use Rattle.work_lets.proofs.dead.dead.Goals as goal

pub returns-then-not-loses : goal.returns-then-not-loses
returns-then-not-loses c = λ o e' m.
    let marks = c.in_ok-marks.marks.items in
    let reached = subst (λ bs. MarksReached (group_of bs) c.in-LetRec.body.value marks) c.deref.ensures.value (subst (λ e. MarksReached (group_of c.deref.result.now) e marks) c.deref-2.ensures c.in_ok-marks.ensures) in
    all_reached m refl (group_of c.in-LetRec.bindings.items) c.in-LetRec.body.value marks (ap tree_of c.in-LetRec.is) reached
    (λ u. true≢false (sym (c.loses.ensures.1 (subst (λ ms. (ms ≡ []) ⊎ Contains ms false) (sym c.as_slice.ensures.value) u)) ∙ c.if-not-loses.true))

pub kept-requires : goal.kept-requires
kept-requires c =
    let marks = c.in_ok-marks.marks.items in
    let reached = subst (λ bs. MarksReached (group_of bs) c.in-LetRec.body.value marks) c.deref.ensures.value (subst (λ e. MarksReached (group_of c.deref.result.now) e marks) c.deref-2.ensures c.in_ok-marks.ensures) in
    ap length c.as_slice-2.ensures.value ∙ reached.each_one ∙ size_of_group c.in-LetRec.bindings.items ∙ sym (ap length c.deref-3.ensures.value)

pub returns : goal.returns
returns c = λ o.
    let at = spot_of c.args.place.now in
    let bs = c.in-LetRec.bindings.items in
    let body = c.in-LetRec.body.value in
    let marks = c.in_ok-marks.marks.items in
    let reached = subst (λ bs. MarksReached (group_of bs) body marks) c.deref.ensures.value (subst (λ e. MarksReached (group_of c.deref.result.now) e marks) c.deref-2.ensures c.in_ok-marks.ensures) in
    let some = subst (λ ms. (ms ≡ []) ⊎ Contains ms false) c.as_slice.ensures.value (c.loses.ensures.0 c.if-not-loses.false) in
    let made = some_go o at (group_of bs) body marks (λ h. true≢false (sym (c.is_of_head.ensures.1 h) ∙ c.if-is_of_head.false)) reached some in
    let is = c.in_ok-kept.ensures ∙ (λ i. kept (c.as_slice-2.ensures.value i) (group_of (c.deref-3.ensures.value i)) (c.deref-4.ensures i)) in
    subst (λ f. OfLets o at Dead f c.in_ok-kept.field-0) (sym (ap tree_of c.in-LetRec.is)) (subst (OfLets o at Dead (letrec (group_of bs) body)) (sym is) made)
