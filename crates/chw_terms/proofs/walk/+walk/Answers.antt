use Rattle.std.proofs.Common.{◌≡◌, ◌+◌, IfOk, map, sym, ap, ◌∙◌, arith, subst, rules}
use Rattle.chw_terms.specs.PartsFall.{alt_smaller, arg_smaller, binding_smaller, term_smaller}
use Rattle.chw_terms.specs.TermFalls.{applied_size}
use Rattle.chw_terms.specs.TermSize.{tree_size, args_size}
use Rattle.chw_types.specs.TypeMoves.{raised}
use Rattle.chw_terms.specs.TermMoves.{in_place_of}
use Rattle.chw_terms.specs.TermTree.{var, lam, ty_lam, letrec, vec_lit, case_of}
use Rattle.chw_terms.specs.TermView.{tree_of, applied, terms_of, group_of, alts_of}
use Rattle.chw_terms.specs.Moved.{moved, moved_arg, moved_binding, moved_alt, renumbered, renamed}
use Rattle.chw_terms.proofs.TermMoved.{all_done, put_var, moved_leaf, moved_applied, moved_lam, moved_ty_lam, moved_letrec, moved_vec, moved_case, renamed_var, typed_var}
use Rattle.chw_terms.proofs.walk.+walk.Goals as goal

-- a head at arguments
pub walk-walk_head-requires : goal.walk-walk_head-requires
walk-walk_head-requires t c =
    let h = tree_of c.t.inside.head in
    let whole : tree_size (applied h c.t.inside.args.items) ≡ tree_size c.args.t.now = ap tree_size c.t.view_is in
    (omega (arith, c.decreases, whole, applied_size h c.t.inside.args.items), tt)

pub walk-walk_args-requires : goal.walk-walk_args-requires
walk-walk_args-requires t c =
    let h = tree_of c.t.inside.head in
    let whole : tree_size (applied h c.t.inside.args.items) ≡ tree_size c.args.t.now = ap tree_size c.t.view_is in
    let all : args_size c.deref.result.now ≡ args_size c.t.inside.args.items = ap args_size c.deref.ensures.value in
    (omega (arith, c.decreases, whole, all, applied_size h c.t.inside.args.items), tt)

pub walk-returns : goal.walk-returns
walk-returns t c =
    let m = c.args.what in
    let h = tree_of c.t.inside.head in
    let args = c.in_ok-args.ensures ∙ ap (map (moved_arg m c.args.at c.args.types)) c.deref.ensures.value in
    subst (λ y. IfOk c.applied.result (λ e. e ≡ y))
    ((λ i. applied (c.in_ok-head.ensures i) (args i)) ∙ moved_applied m c.args.at c.args.types h c.t.inside.args.items ∙ ap (moved m c.args.at c.args.types) c.t.view_is)
    c.applied.ensures

pub walk_args-walk_arg-requires : goal.walk_args-walk_arg-requires
walk_args-walk_arg-requires t c =
    (omega (arith, c.decreases, arg_smaller c.args.args.now c.loop-arg.arg-index c.arg-item.result _ c.loop-arg-test.true c.arg-item.is), tt)

-- the forms of heads
pub walk_head-returns-in_ok-body-in-TyLam : goal.walk_head-returns-in_ok-body-in-TyLam
walk_head-returns-in_ok-body-in-TyLam t c =
    let m = c.args.what in
    let k = c.in-TyLam.kind in
    let body : c.in_ok-body-in-TyLam.body ≡ moved m c.args.at (c.args.types + 1) c.in-TyLam.body.value = c.in_ok-body-in-TyLam.ensures ∙ (λ i. moved m c.args.at (c.in_ok-inner-in-TyLam.ensures i) (c.deref-in-TyLam.ensures i)) in
    let whole : ty_lam k (moved m c.args.at (c.args.types + 1) c.in-TyLam.body.value) ≡ moved m c.args.at c.args.types (tree_of c.args.head.now) = moved_ty_lam m c.args.at c.args.types k c.in-TyLam.body.value ∙ ap (λ h. moved m c.args.at c.args.types (tree_of h)) (sym c.in-TyLam.is) in
    subst (λ y. IfOk c.ty_lam.result (λ e. e ≡ y)) (ap (ty_lam k) body ∙ whole) c.ty_lam.ensures

pub walk_head-returns-in-Global : goal.walk_head-returns-in-Global
walk_head-returns-in-Global t c =
    subst (λ y. IfOk c.copy_leaf.result (λ e. e ≡ y)) (moved_leaf c.args.what c.args.at c.args.types c.args.head.now (search rules)) c.copy_leaf.ensures

pub walk_lam-returns : goal.walk_lam-returns
walk_lam-returns t c =
    let m = c.args.what in
    subst (λ y. IfOk c.lam.result (λ e. e ≡ y))
    ((λ i. lam (c.in_ok-ty.ensures i) ((c.in_ok-body.ensures ∙ ap (λ n. moved m n c.args.types c.args.body.now) c.in_ok-inner.ensures) i))
    ∙ moved_lam m c.args.at c.args.types c.args.ty.now c.args.body.now)
    c.lam.ensures

-- the parts of lists
pub walk_letrec-walk_binding-requires : goal.walk_letrec-walk_binding-requires
walk_letrec-walk_binding-requires t c =
    (omega (arith, c.decreases, binding_smaller c.args.bindings.now c.loop-binding.binding-index c.binding-item.result _ c.loop-binding-test.true c.binding-item.is), tt)

pub walk_letrec-returns : goal.walk_letrec-returns
walk_letrec-returns t c =
    let m = c.args.what in
    let bs = c.args.bindings.now in
    let at = c.in_ok-inner.ensures ∙ ap (λ n. c.args.at + n) c.in_ok-count.ensures in
    let group = all_done (moved_binding m c.in_ok-inner.inner c.args.types) bs c.loop-binding.group.items c.loop-binding.binding-index c.loop-binding.invariant c.loop-binding-test.false in
    subst (λ y. IfOk c.letrec.result (λ e. e ≡ y))
    ((λ i. letrec (group_of (group i)) (c.in_ok-body.ensures i))
    ∙ ap (λ n. letrec (group_of (map (moved_binding m n c.args.types) bs)) (moved m n c.args.types c.args.body.now)) at
    ∙ moved_letrec m c.args.at c.args.types bs c.args.body.now)
    c.letrec.ensures

pub walk_vec-walk-requires : goal.walk_vec-walk-requires
walk_vec-walk-requires t c =
    (omega (arith, c.decreases, term_smaller c.args.elements.now c.loop-element.element-index c.element-item.result _ c.loop-element-test.true c.element-item.is), tt)

pub walk_vec-returns : goal.walk_vec-returns
walk_vec-returns t c =
    let m = c.args.what in
    let es = c.args.elements.now in
    let done = all_done (moved m c.args.at c.args.types) es c.loop-element.done.items c.loop-element.element-index c.loop-element.invariant c.loop-element-test.false in
    c.vec_lit.ensures ∙ (λ i. vec_lit (c.in_ok-ty.ensures i) (terms_of (done i))) ∙ moved_vec m c.args.at c.args.types c.args.ty.now es

pub walk_case-walk_alt-requires : goal.walk_case-walk_alt-requires
walk_case-walk_alt-requires t c =
    (omega (arith, c.decreases, alt_smaller c.args.alts.now c.loop-alt.alt-index c.alt-item.result _ c.loop-alt-test.true c.alt-item.is), tt)

pub walk_case-returns : goal.walk_case-returns
walk_case-returns t c =
    let m = c.args.what in
    let alts = c.args.alts.now in
    let done = all_done (moved_alt m c.args.at c.args.types) alts c.loop-alt.done.items c.loop-alt.alt-index c.loop-alt.invariant c.loop-alt-test.false in
    subst (λ y. IfOk c.case.result (λ e. e ≡ y))
    ((λ i. case_of (c.in_ok-on.ensures i) (alts_of (done i))) ∙ moved_case m c.args.at c.args.types c.args.on.now alts)
    c.case.ensures

-- the variables
pub walk_var-returns-in_ok-renumber-in-Rename : goal.walk_var-returns-in_ok-renumber-in-Rename
walk_var-returns-in_ok-renumber-in-Rename t c =
    c.var.ensures
    ∙ renamed_var (renumbered c.in-Rename.how c.args.at) c.in-Rename.field-1 c.args.types c.args.x.number c.in_ok-renumber-in-Rename.field-0.number c.in_ok-renumber-in-Rename.ensures
    ∙ ap (λ m. moved m c.args.at c.args.types (var c.args.x.number)) (sym c.in-Rename.is)

pub walk_var-returns-in-PutTerm : goal.walk_var-returns-in-PutTerm
walk_var-returns-in-PutTerm t c =
    subst (λ y. IfOk c.put_for_var.result (λ e. e ≡ y))
    ((λ i. in_place_of (c.from.ensures i + c.from-in-PutTerm.ensures i) (renamed (raised 0 c.args.at) c.args.types 0 c.in-PutTerm.arg.now) c.args.x.number)
    ∙ put_var c.in-PutTerm.v c.in-PutTerm.arg.now c.args.at c.args.types c.args.x.number
    ∙ ap (λ m. moved m c.args.at c.args.types (var c.args.x.number)) (sym c.in-PutTerm.is))
    c.put_for_var.ensures

pub walk_var-returns-in-PutType : goal.walk_var-returns-in-PutType
walk_var-returns-in-PutType t c =
    c.var-in-PutType.ensures
    ∙ typed_var c.in-PutType.field-0.now c.args.types c.args.x.number
    ∙ ap (λ m. moved m c.args.at c.args.types (var c.args.x.number)) (sym c.in-PutType.is)
