use Rattle.std.proofs.Common.{◌≡◌, ◌+◌, IfOk, map, sym, ap, ◌∙◌, arith, subst, rules}
use Rattle.chw_terms.specs.PartsFall.{alt_smaller, arg_smaller, binding_smaller, term_smaller}
use Rattle.chw_terms.specs.TermFalls.{applied_size}
use Rattle.chw_terms.specs.TermSize.{tree_size, args_size}
use Rattle.chw_terms.specs.TermTree.{lam, ty_lam, letrec, vec_lit, case_of}
use Rattle.chw_terms.specs.TermView.{tree_of, applied, terms_of, group_of, alts_of}
use Rattle.chw_terms.proofs.TermMoved.{all_done}
use Rattle.work_lets.specs.Closings.{closed, closed_arg, closed_binding, closed_alt}
use Rattle.work_lets.proofs.Closed.{closed_leaf, closed_applied, closed_lam, closed_ty_lam, closed_letrec, closed_vec, closed_case}
use Rattle.work_lets.proofs.closing.+close.Goals as goal

-- a head at arguments
pub close-close_head-requires : goal.close-close_head-requires
close-close_head-requires t c =
    let h = tree_of c.t.inside.head in
    let whole : tree_size (applied h c.t.inside.args.items) ≡ tree_size c.args.t.now = ap tree_size c.t.view_is in
    (omega (arith, c.decreases, whole, applied_size h c.t.inside.args.items), tt)

pub close-close_args-requires : goal.close-close_args-requires
close-close_args-requires t c =
    let h = tree_of c.t.inside.head in
    let whole : tree_size (applied h c.t.inside.args.items) ≡ tree_size c.args.t.now = ap tree_size c.t.view_is in
    let all : args_size c.deref.result.now ≡ args_size c.t.inside.args.items = ap args_size c.deref.ensures.value in
    (omega (arith, c.decreases, whole, all, applied_size h c.t.inside.args.items), tt)

pub close-returns : goal.close-returns
close-returns t c =
    let k = c.args.closing.now in
    let h = tree_of c.t.inside.head in
    let args = c.in_ok-args.ensures ∙ ap (map (closed_arg k c.args.at)) c.deref.ensures.value in
    subst (λ y. IfOk c.applied.result (λ e. e ≡ y))
    ((λ i. applied (c.in_ok-head.ensures i) (args i)) ∙ closed_applied k c.args.at h c.t.inside.args.items ∙ ap (closed k c.args.at) c.t.view_is)
    c.applied.ensures

pub close_args-close_arg-requires : goal.close_args-close_arg-requires
close_args-close_arg-requires t c =
    (omega (arith, c.decreases, arg_smaller c.args.args.now c.loop-arg.arg-index c.arg-item.result _ c.loop-arg-test.true c.arg-item.is), tt)

-- the forms of heads
pub close_head-returns-in_ok-body-in-TyLam : goal.close_head-returns-in_ok-body-in-TyLam
close_head-returns-in_ok-body-in-TyLam t c =
    let m = c.args.closing.now in
    let k = c.in-TyLam.kind in
    let body : c.in_ok-body-in-TyLam.body ≡ closed m c.args.at c.in-TyLam.body.value = c.in_ok-body-in-TyLam.ensures ∙ ap (closed m c.args.at) c.deref-in-TyLam.ensures in
    let whole : ty_lam k (closed m c.args.at c.in-TyLam.body.value) ≡ closed m c.args.at (tree_of c.args.head.now) = closed_ty_lam m c.args.at k c.in-TyLam.body.value ∙ ap (λ h. closed m c.args.at (tree_of h)) (sym c.in-TyLam.is) in
    subst (λ y. IfOk c.ty_lam.result (λ e. e ≡ y)) (ap (ty_lam k) body ∙ whole) c.ty_lam.ensures

pub close_head-returns-in-Global : goal.close_head-returns-in-Global
close_head-returns-in-Global t c =
    subst (λ y. IfOk c.copy_leaf.result (λ e. e ≡ y)) (closed_leaf c.args.closing.now c.args.at c.args.head.now (search rules)) c.copy_leaf.ensures

pub close_lam-returns : goal.close_lam-returns
close_lam-returns t c =
    let m = c.args.closing.now in
    subst (λ y. IfOk c.lam.result (λ e. e ≡ y))
    ((λ i. lam (c.in_ok-ty.ensures i) ((c.in_ok-body.ensures ∙ ap (λ n. closed m n c.args.body.now) c.in_ok-inner.ensures) i))
    ∙ closed_lam m c.args.at c.args.ty.now c.args.body.now)
    c.lam.ensures

-- the parts of lists
pub close_letrec-close_binding-requires : goal.close_letrec-close_binding-requires
close_letrec-close_binding-requires t c =
    (omega (arith, c.decreases, binding_smaller c.args.bindings.now c.loop-binding.binding-index c.binding-item.result _ c.loop-binding-test.true c.binding-item.is), tt)

pub close_letrec-returns : goal.close_letrec-returns
close_letrec-returns t c =
    let m = c.args.closing.now in
    let bs = c.args.bindings.now in
    let at = c.in_ok-inner.ensures ∙ ap (λ n. c.args.at + n) c.in_ok-count.ensures in
    let group = all_done (closed_binding m c.in_ok-inner.inner) bs c.loop-binding.group.items c.loop-binding.binding-index c.loop-binding.invariant c.loop-binding-test.false in
    subst (λ y. IfOk c.letrec.result (λ e. e ≡ y))
    ((λ i. letrec (group_of (group i)) (c.in_ok-body.ensures i))
    ∙ ap (λ n. letrec (group_of (map (closed_binding m n) bs)) (closed m n c.args.body.now)) at
    ∙ closed_letrec m c.args.at bs c.args.body.now)
    c.letrec.ensures

pub close_vec-close-requires : goal.close_vec-close-requires
close_vec-close-requires t c =
    (omega (arith, c.decreases, term_smaller c.args.elements.now c.loop-element.element-index c.element-item.result _ c.loop-element-test.true c.element-item.is), tt)

pub close_vec-returns : goal.close_vec-returns
close_vec-returns t c =
    let m = c.args.closing.now in
    let es = c.args.elements.now in
    let done = all_done (closed m c.args.at) es c.loop-element.done.items c.loop-element.element-index c.loop-element.invariant c.loop-element-test.false in
    c.vec_lit.ensures ∙ (λ i. vec_lit (c.in_ok-ty.ensures i) (terms_of (done i))) ∙ closed_vec m c.args.at c.args.ty.now es

pub close_case-close_alt-requires : goal.close_case-close_alt-requires
close_case-close_alt-requires t c =
    (omega (arith, c.decreases, alt_smaller c.args.alts.now c.loop-alt.alt-index c.alt-item.result _ c.loop-alt-test.true c.alt-item.is), tt)

pub close_case-returns : goal.close_case-returns
close_case-returns t c =
    let m = c.args.closing.now in
    let alts = c.args.alts.now in
    let done = all_done (closed_alt m c.args.at) alts c.loop-alt.done.items c.loop-alt.alt-index c.loop-alt.invariant c.loop-alt-test.false in
    subst (λ y. IfOk c.case.result (λ e. e ≡ y))
    ((λ i. case_of (c.in_ok-on.ensures i) (alts_of (done i))) ∙ closed_case m c.args.at c.args.on.now alts)
    c.case.ensures
