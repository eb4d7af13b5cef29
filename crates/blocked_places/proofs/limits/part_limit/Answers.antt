use Rattle.std.proofs.Common.{◌≡◌, ◌∙◌, [], length, sym, ap, subst, arith}
use Rattle.std.proofs.lemmas.Bool.{eqb-true, eqb-false}
use Rattle.std.proofs.lemmas.List.{nil_from_length}
use Rattle.chw_terms.specs.declared.term.Binding.{Binding}
use Rattle.chw_terms.specs.TermTree.{letrec}
use Rattle.chw_terms.specs.TermView.{tree_of, applied, group_of}
use Rattle.rewriting.specs.Origins.{origins_of}
use Rattle.rewriting.specs.Spots.{spot_of}
use Rattle.blocked_places.specs.Firsts.{FindsFirstOf}
use Rattle.blocked_places.specs.Limits.{BindingPasses, FindsPartLimit}
use Rattle.blocked_places.proofs.Results.{ok_more}
use Rattle.blocked_places.proofs.Shapes.{letrec_alone, no_letrec, no_prim, no_both}
use Rattle.blocked_places.proofs.Turns.{none_later, bindings_pass}
use Rattle.blocked_places.proofs.limits.part_limit.Goals as goal

pub returns-in_default-clause-limit : goal.returns-in_default-clause-limit
returns-in_default-clause-limit c =
    let args = c.at.inside.args.items in
    none_later (origins_of c.args.scene.now) (spot_of c.args.place.now) c.args.at.now
    (λ g x q. no_letrec c.at.inside.head args c.in_default.not-LetRec g x (c.at.view_is ∙ q))
    (λ p more q. no_prim c.at.inside.head args c.in_default.not-PrimOf p more (c.at.view_is ∙ q))

pub returns-then-not-is_empty-clause-limit : goal.returns-then-not-is_empty-clause-limit
returns-then-not-is_empty-clause-limit c =
    let args = c.at.inside.args.items in
    none_later (origins_of c.args.scene.now) (spot_of c.args.place.now) c.args.at.now
    (λ g x q.
    let none = ap length (letrec_alone c.at.inside.head args g x (c.at.view_is ∙ q)) in
    eqb-false _ _ (sym c.is_empty.ensures ∙ c.if-not-is_empty.true) (omega (arith, none, c.at.inside.args.ok.0)))
    (λ p more q. no_prim c.at.inside.head args (λ r h. no_both c.at.inside.head _ _ r c.in-LetRec.is h) p more (c.at.view_is ∙ q))

pub returns-else-not-is_empty-clause-limit : goal.returns-else-not-is_empty-clause-limit
returns-else-not-is_empty-clause-limit c =
    let o = origins_of c.args.scene.now in
    let at = spot_of c.args.place.now in
    let args = c.at.inside.args.items in
    let bs = c.in-LetRec.bindings.items in
    let body = c.in-LetRec.field-1.value in
    let none = eqb-true _ _ (sym c.is_empty.ensures ∙ c.if-not-is_empty.false) in
    let alone : args ≡ [] = nil_from_length _ (omega (arith, none, c.at.inside.args.ok.0)) in
    let is : c.args.at.now ≡ letrec (group_of bs) body =
    sym c.at.view_is ∙ ap (λ h. applied (tree_of h) args) c.in-LetRec.is ∙ ap (applied (letrec (group_of bs) body)) alone in
    ok_more c.first_binding.result _ _
    (λ answer h. subst (λ e. FindsPartLimit o at e answer) (sym is)
    (bindings_pass o at bs body answer
    (subst (λ ds. FindsFirstOf Binding (BindingPasses ds) bs answer) c.requires.widths
    (subst (λ xs. FindsFirstOf Binding (BindingPasses c.args.widths.now) xs answer) c.deref-in-LetRec.ensures.value h))))
    c.first_binding.ensures.limit
