use Rattle.std.proofs.Common.{◌∙◌, ap, sym, refl, subst}
use Rattle.chw_terms.specs.TermTree.{letrec, case_of}
use Rattle.chw_terms.specs.TermView.{tree_of, alts_of, group_of}
use Rattle.chw_terms.proofs.TermLists.{size_of_group}
use Rattle.rewriting.specs.Shapes.{shift_alts}
use Rattle.flow_cases.specs.Heads.{IsApplied}
use Rattle.flow_cases.proofs.Forms.{no_letrec}
use Rattle.flow_cases.proofs.Inversions.{of_let}
use Rattle.flow_cases.proofs.Makings.{let_made}
use Rattle.flow_cases.proofs.lets.case_let.Goals as goal

pub returns-in_default : goal.returns-in_default
returns-in_default c o at e' m =
    let l = of_let m refl c.args.on.now (alts_of c.args.alts.now) refl in
    subst IsApplied l.2 c.in_default.ensures

pub returns-in_default-head : goal.returns-in_default-head
returns-in_default-head c o at e' m =
    let l = of_let m refl c.args.on.now (alts_of c.args.alts.now) refl in
    no_letrec c.in-Some.head.now c.in_default-head.not-LetRec l.0 l.1 (c.in-Some.ensures ∙ l.2)

pub returns : goal.returns
returns c o at =
    let bs = c.in-LetRec.bindings.items in
    let count = c.in_ok-narrow.ensures.narrow ∙ c.len.ensures ∙ c.in-LetRec.bindings.ok.0 ∙ sym (size_of_group bs) in
    let inside = c.in_ok-inside.ensures ∙ ap (shift_alts (alts_of c.args.alts.now) 0) count in
    let body = c.in_ok-copy.ensures ∙ c.deref.ensures in
    let inner = c.in_ok-inner.ensures ∙ (λ i. case_of (body i) (inside i)) in
    let group = c.in_ok-group.ensures ∙ c.deref-2.ensures.value in
    let_made o at c.args.on.now (group_of bs) c.in-LetRec.body.value (alts_of c.args.alts.now) c.in_ok-letrec.field-0
    (sym c.in-Some.ensures ∙ ap tree_of c.in-LetRec.is)
    (c.in_ok-letrec.ensures ∙ (λ i. letrec (group_of (group i)) (inner i)))
