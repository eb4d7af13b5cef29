use Rattle.std.proofs.Common.{◌≡◌, ◌∙◌, ap, sym, subst, None, Option, true, false}
use Rattle.std.specs.Option.{option_map}
use Rattle.chw_terms.specs.TermTree.{TermTree, letrec}
use Rattle.chw_terms.specs.TermView.{tree_of, applied, group_of}
use Rattle.rewriting.specs.Spots.{spot_of}
use Rattle.rewriting.specs.Shapes.{IsOfHead}
use Rattle.flow_lets.specs.Flat.{AnswersFlat, AnswersLetrec}
use Rattle.flow_lets.proofs.FirstLet.{other_head}
use Rattle.flow_lets.proofs.Flat.{of_other, of_letrec, ok_more}
use Rattle.flow_lets.proofs.trial.try_lets.Goals as goal

pub returns-in_default : goal.returns-in_default
returns-in_default c =
    let at = spot_of c.args.place.now in
    subst (λ e. AnswersFlat at e None) c.at.view_is (of_other at c.at.inside.head c.at.inside.args.items (other_head c.at.inside.head c.in_default.not-LetRec))

pub returns : goal.returns
returns c =
    let at = spot_of c.args.place.now in
    let args = c.at.inside.args.items in
    let g = group_of c.in-LetRec.group.items in
    let e = c.in-LetRec.body.value in
    let made = c.in_ok-made.made in
    let whole : applied (letrec g e) args ≡ c.args.at.now = ap (λ h. applied (tree_of h) args) (sym c.in-LetRec.is) ∙ c.at.view_is in
    let parts : letrec (group_of c.deref.result.now) c.deref-2.result.now ≡ letrec g e = λ i. letrec (group_of (c.deref.ensures.value i)) (c.deref-2.ensures i) in
    let core : AnswersLetrec (letrec g e) made = subst (λ e. AnswersLetrec e made) parts c.in_ok-made.ensures in
    let no_head : IsOfHead c.args.place.now.mode → ⊥ = λ h. let f : false ≡ true = c.if-is_of_head.ensures.1 h in absurd cc in
    let all : AnswersFlat at c.args.at.now (option_map (λ e. applied e args) made) =
    subst (λ e. AnswersFlat at e (option_map (λ e. applied e args) made)) whole (of_letrec at g e args made no_head core) in
    ok_more c.with_rest.result (λ (it : Option TermTree). it ≡ option_map (λ e. applied e c.deref-3.result.now) made) (AnswersFlat at c.args.at.now)
    (λ it is. subst (AnswersFlat at c.args.at.now) (sym (is ∙ ap (λ args. option_map (λ e. applied e args) made) c.deref-3.ensures.value)) all) c.with_rest.ensures
