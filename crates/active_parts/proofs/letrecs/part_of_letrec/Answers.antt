use Rattle.std.proofs.Common.{◌≤◌, ◌<◌, [], ◌∷◌, length, reverse, refl, sym, subst, false, arith}
use Rattle.std.proofs.lemmas.Bool.{ltb-true, ltb-false}
use Rattle.std.proofs.lemmas.Option.{slice_get_read}
use Rattle.chw_terms.specs.TermTree.{letrec}
use Rattle.chw_terms.specs.TermView.{group_of}
use Rattle.chw_typing.specs.Scopes.{with_more, declared}
use Rattle.rewriting.specs.Named.{IsNamed}
use Rattle.rewriting.specs.Origins.{origins_of}
use Rattle.rewriting.specs.Active.{Below}
use Rattle.rewriting.specs.Spots.{spot}
use Rattle.active_parts.specs.Parts.{around}
use Rattle.active_parts.proofs.Heads.{no_let_parts, no_more_sides, no_side, side_below, body_below}
use Rattle.active_parts.proofs.Truths.{not_true}
use Rattle.active_parts.proofs.letrecs.part_of_letrec.Goals as goal

pub returns-then-not-has_parts : goal.returns-then-not-has_parts
returns-then-not-has_parts c at' x b =
    let bs = c.args.bindings.now in
    let e = c.args.body.now in
    let o = origins_of c.args.ground.now.scene.now in
    let at = around c.args.place.now (letrec (group_of bs) e) in
    no_let_parts o at bs e (c.args.number ∷ [])
    (λ m. not_true c.has_parts.result c.if-not-has_parts.true (c.has_parts.ensures.1 m)) at' x b

pub returns-then-number-bindings : goal.returns-then-number-bindings
returns-then-number-bindings c =
    let bs = c.args.bindings.now in
    let e = c.args.body.now in
    let o = origins_of c.args.ground.now.scene.now in
    let place = c.args.place.now in
    let at = around place (letrec (group_of bs) e) in
    let n = c.args.number in
    let gives = c.gives_result-gives.result in
    let vars = reverse place.vars in
    let parts = c.has_parts.ensures.0 c.if-not-has_parts.false in
    let inner = with_more (declared (group_of bs)) at.vars in
    subst (λ ts. Below o at (letrec (group_of bs) e) (n ∷ []) (spot place.mode gives (with_more ts vars)) e)
    (sym c.new-more.ensures.items)
    (subst (λ vs. Below o at (letrec (group_of bs) e) (n ∷ []) (spot place.mode gives vs) e)
    (sym c.requires.inside)
    (subst (λ g. Below o at (letrec (group_of bs) e) (n ∷ []) (spot place.mode g inner) e)
    (sym c.gives_result-gives.ensures)
    (body_below o at bs e n parts c.if-number-bindings.true)))

pub returns-in_default : goal.returns-in_default
returns-in_default c at' x b =
    let bs = c.args.bindings.now in
    let e = c.args.body.now in
    let o = origins_of c.args.ground.now.scene.now in
    let at = around c.args.place.now (letrec (group_of bs) e) in
    let n = c.args.number in
    let past : length bs ≤ n = ltb-false _ _ (sym c.in_default.ensures.lookup.0) in
    let other = c.if-number-bindings.false in
    let more : length bs < n = omega (arith, past, other) in
    no_more_sides o at bs e n more at' x b

pub returns-then-not-branch : goal.returns-then-not-branch
returns-then-not-branch c at' x b =
    let bs = c.args.bindings.now in
    let e = c.args.body.now in
    let o = origins_of c.args.ground.now.scene.now in
    let place = c.args.place.now in
    let at = around place (letrec (group_of bs) e) in
    let n = c.args.number in
    let it = c.in-Some.binding.now in
    let there = c.in-Some.ensures.lookup in
    let item = slice_get_read bs (length bs) n it refl (ltb-true _ _ (sym there.0)) there.1 in
    no_side o at bs e n it item
    (λ h. not_true c.in_ok-is_named.field-0 c.if-not-branch.true
    (c.in_ok-is_named.ensures.1 (subst (λ ds. IsNamed ds place.mode it.ty) (sym c.as_slice-datas.ensures) h))) at' x b

pub returns : goal.returns
returns c =
    let bs = c.args.bindings.now in
    let e = c.args.body.now in
    let o = origins_of c.args.ground.now.scene.now in
    let place = c.args.place.now in
    let at = around place (letrec (group_of bs) e) in
    let n = c.args.number in
    let it = c.in-Some.binding.now in
    let there = c.in-Some.ensures.lookup in
    let item = slice_get_read bs (length bs) n it refl (ltb-true _ _ (sym there.0)) there.1 in
    let parts = c.has_parts.ensures.0 c.if-not-has_parts.false in
    let named = subst (λ ds. IsNamed ds place.mode it.ty) c.as_slice-datas.ensures (c.in_ok-is_named.ensures.0 c.if-not-branch.false) in
    subst (λ ts. Below o at (letrec (group_of bs) e) (n ∷ []) (spot place.mode false (with_more ts (reverse place.vars))) it.body)
    (sym c.new-more.ensures.items)
    (subst (λ vs. Below o at (letrec (group_of bs) e) (n ∷ []) (spot place.mode false vs) it.body)
    (sym c.requires.inside)
    (side_below o at bs e n it parts item named))
