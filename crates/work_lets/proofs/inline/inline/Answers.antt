use Rattle.std.proofs.Common.{◌∙◌, ap, sym, subst, refl, take, drop}
use Rattle.std.proofs.lemmas.Bool.{true≢false}
use Rattle.chw_terms.specs.declared.rule.Rule.TheVariants.{Inline}
use Rattle.chw_terms.specs.TermTree.{letrec}
use Rattle.chw_terms.specs.TermView.{group_of, tree_of}
use Rattle.rewriting.specs.Origins.{origins_of}
use Rattle.rewriting.specs.Spots.{spot_of}
use Rattle.rewriting.specs.Lets.{EachStays, OfLets, inlined}
use Rattle.work_lets.specs.Inlined.{IsFirst}
use Rattle.work_lets.proofs.Inlined.{all_stay, first_parts}
use Rattle.work_lets.proofs.inline.inline.Goals as goal

pub returns-in_default-2 : goal.returns-in_default-2
returns-in_default-2 c = λ e' m.
    let mode = c.args.place.now.mode in
    let stay = rw c.in_default-2.is at c.in_ok-at.ensures in
    let here = subst (λ ds. EachStays ds mode (group_of c.deref.result.now) 0) c.as_slice-datas.ensures stay in
    let all = subst (λ bs. EachStays c.args.scene.now.program.now.datas mode (group_of bs) 0) c.deref.ensures.value here in
    all_stay m refl (group_of c.in-LetRec.bindings.items) c.in-LetRec.body.value (ap tree_of c.in-LetRec.is) all

pub returns : goal.returns
returns c =
    let o = origins_of c.args.scene.now in
    let at = spot_of c.args.place.now in
    let mode = c.args.place.now.mode in
    let bs = c.in-LetRec.bindings.items in
    let body = c.in-LetRec.body.value in
    let found = rw c.in-Some.is at c.in_ok-at.ensures in
    let here = subst (λ ds. IsFirst ds mode c.deref.result.now c.in-Some.at) c.as_slice-datas.ensures found in
    let first = subst (λ bs. IsFirst c.args.scene.now.program.now.datas mode bs c.in-Some.at) c.deref.ensures.value here in
    let front = c.split_at.ensures.front ∙ ap (take c.in-Some.at) c.deref-2.ensures.value in
    let others = c.split_at.ensures.back ∙ ap (drop c.in-Some.at) c.deref-2.ensures.value in
    let made = first_parts o at bs c.in-Some.at body c.split_at.result.0.now c.split_at.result.1.now c.in-Some-split_first.back.now c.in-Some-split_first.it.now (λ h. true≢false (sym (c.is_of_head.ensures.1 h) ∙ c.if-is_of_head.false)) first front others c.in-Some-split_first.ensures.cases.0 in
    let is = c.in_ok-inlined.ensures ∙ ap (inlined (group_of c.split_at.result.0.now) c.in-Some-split_first.it.now.body (group_of c.in-Some-split_first.back.now)) c.deref-3.ensures in
    subst (λ f. OfLets o at Inline f c.in_ok-inlined.field-0) (sym (ap tree_of c.in-LetRec.is)) (subst (OfLets o at Inline (letrec (group_of bs) body)) (sym is) made)
