use Rattle.std.proofs.Common.{◌≡◌, ◌+◌, rules, slice_index_or, map, length, take, drop, ◌++◌, sym, ap, ◌∙◌, arith}
use Rattle.std.proofs.lemmas.Result.{on_ok_weaker}
use Rattle.chw_terms.specs.PartsFall.{alt_smaller, arg_smaller, binding_smaller, term_smaller}
use Rattle.chw_terms.specs.TermFalls.{applied_size}
use Rattle.chw_terms.specs.TermSize.{tree_size, args_size}
use Rattle.chw_terms.specs.declared.term.Head.{Head}
use Rattle.chw_types.specs.TypeMoves.{lift_by}
use Rattle.chw_terms.specs.TermMoves.{rename}
use Rattle.chw_terms.specs.TermTree.{lam, ty_lam, letrec, vec_lit, case_of}
use Rattle.chw_terms.specs.TermView.{tree_of, applied, terms_of, group_of, alts_of}
use Rattle.chw_typing.specs.Groups.{rename_arg}
use Rattle.chw_typing.proofs.Puts.{written_back}
use Rattle.moved_in_place.specs.Moves.{renamed, renamed_binding, renamed_alt}
use Rattle.moved_in_place.proofs.InPlace.{next_is, next_changed, all_done}
use Rattle.moved_in_place.proofs.Renamed.{renamed_var, renamed_leaf, renamed_applied, renamed_lam, renamed_ty_lam, renamed_letrec, renamed_vec, renamed_case}
use Rattle.moved_in_place.proofs.walk.+walk.Goals as goal

-- a head at arguments
pub walk-walk_head-requires : goal.walk-walk_head-requires
walk-walk_head-requires g t c =
    let h = tree_of c.term.inside.head in
    let whole : tree_size (applied h c.term.inside.args.items) ≡ tree_size c.args.term.now = ap tree_size c.term.view_is in
    λ κs within. (omega (arith, c.decreases, whole, applied_size h c.term.inside.args.items), within)

pub walk-walk_args-requires : goal.walk-walk_args-requires
walk-walk_args-requires g t c =
    let h = tree_of c.term.inside.head in
    let whole : tree_size (applied h c.term.inside.args.items) ≡ tree_size c.args.term.now = ap tree_size c.term.view_is in
    let all : args_size c.deref_mut.result.now ≡ args_size c.term.inside.args.items = ap args_size c.deref_mut.ensures.value in
    λ κs within. (omega (arith, c.decreases, whole, all, applied_size h c.term.inside.args.items), within)

pub walk-returns : goal.walk-returns
walk-returns g t c =
    let ρ = lift_by c.args.at (g.R.Renumbering.renaming c.args.how.now) in
    let old = c.term.inside.head in
    let items = c.term.inside.args.items in
    let new = c.walk_args.new.args in
    let back : length new ≡ length items → take c.term.inside.args.len (new ++ drop (length new) items) ≡ new =
    λ kept. written_back c.term.inside.args.len new items kept (omega (arith, c.term.inside.args.ok.0)) in
    on_ok_weaker c.walk_args.result
    (λ moved. (λ i. applied (tree_of c.walk_head.new.head) (back (omega (arith, c.walk_args.auto.args, ap length c.deref_mut.ensures.value)) i))
    ∙ (λ i. applied (c.in_ok-walk_head.ensures i) ((moved ∙ ap (map (rename_arg ρ)) c.deref_mut.ensures.value) i))
    ∙ renamed_applied ρ (tree_of old) items
    ∙ ap (λ e. rename e ρ) c.term.view_is)
    c.walk_args.ensures

pub walk_args-walk_arg-requires : goal.walk_args-walk_arg-requires
walk_args-walk_arg-requires g t c =
    let xs = c.args.args.now in
    let i = c.loop-arg.arg-index in
    let d = c.arg-item.result in
    let there = next_is (rename_arg (lift_by c.args.at (g.R.Renumbering.renaming c.args.how.now))) xs c.loop-arg.args i d c.loop-arg.invariant in
    λ κs within. (omega (arith, c.decreases, arg_smaller xs i _ d (omega (arith, c.loop-arg-test.true, c.loop-arg.auto.args)) there), within)

pub walk_args-loop-arg-preserved : goal.walk_args-loop-arg-preserved
walk_args-loop-arg-preserved g t c =
    next_changed (rename_arg (lift_by c.args.at (g.R.Renumbering.renaming c.args.how.now))) c.args.args.now c.loop-arg.args c.loop-arg.arg-index c.arg-item.result c.walk_arg.new.arg
    (omega (arith, c.loop-arg-test.true, c.loop-arg.auto.args)) c.loop-arg.invariant c.in_ok-walk_arg.ensures

pub walk_args-returns : goal.walk_args-returns
walk_args-returns g t c =
    all_done (rename_arg (lift_by c.args.at (g.R.Renumbering.renaming c.args.how.now))) c.args.args.now c.loop-arg.args c.loop-arg.arg-index (omega (arith, c.loop-arg-test.false, c.loop-arg.auto.args)) c.loop-arg.invariant

-- the forms of heads
pub walk_head-returns-in-Var : goal.walk_head-returns-in-Var
walk_head-returns-in-Var g t c =
    let ρ = lift_by c.args.at (g.R.Renumbering.renaming c.args.how.now) in
    on_ok_weaker c.renumber.result
    (λ h. renamed_var ρ c.in-Var.x.number c.renumber.new.x.number h ∙ ap (λ (h : Head). rename (tree_of h) ρ) (sym c.in-Var.is))
    c.renumber.ensures

pub walk_head-returns-in-Lam : goal.walk_head-returns-in-Lam
walk_head-returns-in-Lam g t c =
    let ρ = lift_by c.args.at (g.R.Renumbering.renaming c.args.how.now) in
    let a = c.in-Lam.field-0 in
    on_ok_weaker c.walk_under.result
    (λ h. ap (lam a) (h ∙ ap (renamed (g.R.Renumbering.renaming c.args.how.now) c.args.at 1) c.deref_mut.ensures.value) ∙ renamed_lam (g.R.Renumbering.renaming c.args.how.now) c.args.at a c.in-Lam.body.value ∙ ap (λ (h : Head). rename (tree_of h) ρ) (sym c.in-Lam.is))
    c.walk_under.ensures

pub walk_head-returns-in-TyLam : goal.walk_head-returns-in-TyLam
walk_head-returns-in-TyLam g t c =
    let ρ = lift_by c.args.at (g.R.Renumbering.renaming c.args.how.now) in
    let k = c.in-TyLam.field-0 in
    on_ok_weaker c.walk.result
    (λ h. ap (ty_lam k) (h ∙ ap (λ e. rename e ρ) c.deref_mut-in-TyLam.ensures.value) ∙ renamed_ty_lam ρ k c.in-TyLam.body.value ∙ ap (λ (h : Head). rename (tree_of h) ρ) (sym c.in-TyLam.is))
    c.walk.ensures

pub walk_head-returns-in-VecLit : goal.walk_head-returns-in-VecLit
walk_head-returns-in-VecLit g t c =
    let ρ = lift_by c.args.at (g.R.Renumbering.renaming c.args.how.now) in
    let a = c.in-VecLit.field-0 in
    let items = c.in-VecLit.elements.items in
    let new = c.walk_elements.new.elements in
    let back : take c.in-VecLit.elements.len (new ++ drop (length new) items) ≡ new =
    written_back c.in-VecLit.elements.len new items (omega (arith, c.walk_elements.auto.elements, ap length c.deref_mut-in-VecLit.ensures.value)) (omega (arith, c.in-VecLit.elements.ok.0)) in
    on_ok_weaker c.walk_elements.result
    (λ h. ap (λ es. vec_lit a (terms_of es)) (back ∙ h ∙ ap (map (λ e. rename e ρ)) c.deref_mut-in-VecLit.ensures.value) ∙ renamed_vec ρ a items ∙ ap (λ (h : Head). rename (tree_of h) ρ) (sym c.in-VecLit.is))
    c.walk_elements.ensures

pub walk_head-returns-in-Global : goal.walk_head-returns-in-Global
walk_head-returns-in-Global g t c = renamed_leaf (lift_by c.args.at (g.R.Renumbering.renaming c.args.how.now)) c.args.head.now (search rules)

pub walk_head-returns-in-Global-2 : goal.walk_head-returns-in-Global-2
walk_head-returns-in-Global-2 g t c = renamed_leaf (lift_by c.args.at (g.R.Renumbering.renaming c.args.how.now)) c.args.head.now (search rules)

pub walk_head-returns-in-Global-3 : goal.walk_head-returns-in-Global-3
walk_head-returns-in-Global-3 g t c = renamed_leaf (lift_by c.args.at (g.R.Renumbering.renaming c.args.how.now)) c.args.head.now (search rules)

pub walk_head-returns-in-Global-4 : goal.walk_head-returns-in-Global-4
walk_head-returns-in-Global-4 g t c = renamed_leaf (lift_by c.args.at (g.R.Renumbering.renaming c.args.how.now)) c.args.head.now (search rules)

pub walk_head-returns-in-Global-5 : goal.walk_head-returns-in-Global-5
walk_head-returns-in-Global-5 g t c = renamed_leaf (lift_by c.args.at (g.R.Renumbering.renaming c.args.how.now)) c.args.head.now (search rules)

-- the parts of lists
pub walk_letrec-returns : goal.walk_letrec-returns
walk_letrec-returns g t c =
    let ρ = g.R.Renumbering.renaming c.args.how.now in
    let bs = c.args.bindings.now in
    let inner : c.in_ok-inner.inner ≡ c.args.at + length bs = omega (arith, c.in_ok-inner.ensures, c.in_ok-narrow.ensures.narrow) in
    on_ok_weaker c.walk.result
    (λ h. (λ i. letrec (group_of (c.in_ok-walk_bindings.ensures i)) (h i))
    ∙ ap (λ n. letrec (group_of (map (renamed_binding (lift_by n ρ)) bs)) (rename c.args.body.now (lift_by n ρ))) inner
    ∙ renamed_letrec ρ c.args.at bs c.args.body.now)
    c.walk.ensures

pub walk_bindings-walk-requires : goal.walk_bindings-walk-requires
walk_bindings-walk-requires g t c =
    let xs = c.args.bindings.now in
    let i = c.loop-binding.binding-index in
    let d = c.binding-item.result in
    let there = next_is (renamed_binding (lift_by c.args.at (g.R.Renumbering.renaming c.args.how.now))) xs c.loop-binding.bindings i d c.loop-binding.invariant in
    λ κs within. (omega (arith, c.decreases, binding_smaller xs i _ d (omega (arith, c.loop-binding-test.true, c.loop-binding.auto.bindings)) there), within)

pub walk_bindings-loop-binding-preserved : goal.walk_bindings-loop-binding-preserved
walk_bindings-loop-binding-preserved g t c =
    let f = renamed_binding (lift_by c.args.at (g.R.Renumbering.renaming c.args.how.now)) in
    next_changed f c.args.bindings.now c.loop-binding.bindings c.loop-binding.binding-index c.binding-item.result _
    (omega (arith, c.loop-binding-test.true, c.loop-binding.auto.bindings)) c.loop-binding.invariant
    (λ i. record { ty = (slice_index_or c.loop-binding.bindings c.loop-binding.binding-index c.binding-item.result).ty; body = c.in_ok-walk.ensures i })

pub walk_bindings-returns : goal.walk_bindings-returns
walk_bindings-returns g t c =
    all_done (renamed_binding (lift_by c.args.at (g.R.Renumbering.renaming c.args.how.now))) c.args.bindings.now c.loop-binding.bindings c.loop-binding.binding-index (omega (arith, c.loop-binding-test.false, c.loop-binding.auto.bindings)) c.loop-binding.invariant

pub walk_elements-walk-requires : goal.walk_elements-walk-requires
walk_elements-walk-requires g t c =
    let xs = c.args.elements.now in
    let i = c.loop-element.element-index in
    let d = c.element-item.result in
    let there = next_is (λ e. rename e (lift_by c.args.at (g.R.Renumbering.renaming c.args.how.now))) xs c.loop-element.elements i d c.loop-element.invariant in
    λ κs within. (omega (arith, c.decreases, term_smaller xs i _ d (omega (arith, c.loop-element-test.true, c.loop-element.auto.elements)) there), within)

pub walk_elements-loop-element-preserved : goal.walk_elements-loop-element-preserved
walk_elements-loop-element-preserved g t c =
    next_changed (λ e. rename e (lift_by c.args.at (g.R.Renumbering.renaming c.args.how.now))) c.args.elements.now c.loop-element.elements c.loop-element.element-index c.element-item.result c.walk.new.term
    (omega (arith, c.loop-element-test.true, c.loop-element.auto.elements)) c.loop-element.invariant c.in_ok-walk.ensures

pub walk_elements-returns : goal.walk_elements-returns
walk_elements-returns g t c =
    all_done (λ e. rename e (lift_by c.args.at (g.R.Renumbering.renaming c.args.how.now))) c.args.elements.now c.loop-element.elements c.loop-element.element-index (omega (arith, c.loop-element-test.false, c.loop-element.auto.elements)) c.loop-element.invariant

pub walk_case-returns : goal.walk_case-returns
walk_case-returns g t c =
    on_ok_weaker c.walk_alts.result
    (λ h. (λ i. case_of (c.in_ok-walk.ensures i) (alts_of (h i))) ∙ renamed_case (g.R.Renumbering.renaming c.args.how.now) c.args.at c.args.on.now c.args.alts.now)
    c.walk_alts.ensures

pub walk_alts-walk_under-requires : goal.walk_alts-walk_under-requires
walk_alts-walk_under-requires g t c =
    let xs = c.args.alts.now in
    let i = c.loop-alt.alt-index in
    let d = c.alt-item.result in
    let there = next_is (renamed_alt (g.R.Renumbering.renaming c.args.how.now) c.args.at) xs c.loop-alt.alts i d c.loop-alt.invariant in
    λ κs within. (omega (arith, c.decreases, alt_smaller xs i _ d (omega (arith, c.loop-alt-test.true, c.loop-alt.auto.alts)) there), within)

pub walk_alts-loop-alt-preserved : goal.walk_alts-loop-alt-preserved
walk_alts-loop-alt-preserved g t c =
    let a = slice_index_or c.loop-alt.alts c.loop-alt.alt-index c.alt-item.result in
    next_changed (renamed_alt (g.R.Renumbering.renaming c.args.how.now) c.args.at) c.args.alts.now c.loop-alt.alts c.loop-alt.alt-index c.alt-item.result _
    (omega (arith, c.loop-alt-test.true, c.loop-alt.auto.alts)) c.loop-alt.invariant
    (λ i. record { pattern = a.pattern; body = (c.in_ok-walk_under.ensures ∙ ap (λ n. renamed (g.R.Renumbering.renaming c.args.how.now) c.args.at n a.body) c.binders-binders.ensures) i })

pub walk_alts-returns : goal.walk_alts-returns
walk_alts-returns g t c =
    all_done (renamed_alt (g.R.Renumbering.renaming c.args.how.now) c.args.at) c.args.alts.now c.loop-alt.alts c.loop-alt.alt-index (omega (arith, c.loop-alt-test.false, c.loop-alt.auto.alts)) c.loop-alt.invariant
