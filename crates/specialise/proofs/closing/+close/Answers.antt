use Rattle.std.proofs.Common.{◌≡◌, ◌+◌, IfOk, map, sym, ap, ◌∙◌, arith, subst}
use Rattle.chw_types.specs.TypeMoves.{lift_by}
use Rattle.chw_terms.specs.PartsFall.{alt_smaller, arg_smaller, binding_smaller, term_smaller}
use Rattle.chw_terms.specs.TermFalls.{applied_size}
use Rattle.chw_terms.specs.TermSize.{tree_size, args_size}
use Rattle.chw_terms.specs.TermTree.{lam, ty_lam, letrec, lit, vec_lit, case_of}
use Rattle.chw_terms.specs.TermView.{tree_of, applied, terms_of, group_of, alts_of}
use Rattle.rewriting.specs.Origins.{origins_of}
use Rattle.rewriting.specs.Calls.{to_lambdas}
use Rattle.specialise.specs.Closed.{numbers, closed, closed_arg, closed_binding}
use Rattle.specialise.proofs.Closed.{closed_applied, closed_var, closed_global, closed_made, closed_con, closed_prim, closed_lit, closed_lam, closed_ty_lam, closed_letrec, closed_vec, closed_case, closed_below}
use Rattle.specialise.proofs.closing.+close.Goals as goal

-- a head at arguments
pub close-close_head-requires : goal.close-close_head-requires
close-close_head-requires t c =
    let h = tree_of c.t.inside.head in
    let whole : tree_size (applied h c.t.inside.args.items) ≡ tree_size c.args.t.now = ap tree_size c.t.view_is in
    (omega (arith, c.decreases, whole, applied_size h c.t.inside.args.items), tt)

pub close-close_args-requires : goal.close-close_args-requires
close-close_args-requires t c =
    let h = tree_of c.t.inside.head in
    let whole : tree_size (applied h c.t.inside.args.items) ≡ tree_size c.args.t.now = ap tree_size c.t.view_is in
    let all : args_size c.deref.result.now ≡ args_size c.t.inside.args.items = ap args_size c.deref.ensures.value in
    (omega (arith, c.decreases, whole, all, applied_size h c.t.inside.args.items), tt)

pub close-returns : goal.close-returns
close-returns t c =
    let o = origins_of c.args.scene.now in
    let ρ = lift_by c.args.under (to_lambdas (numbers c.args.free.now)) in
    let h = tree_of c.t.inside.head in
    let args = c.in_ok-args.ensures ∙ ap (map (closed_arg o ρ)) c.deref.ensures.value in
    subst (λ y. IfOk c.applied.result (λ e. e ≡ y))
    ((λ i. applied (c.in_ok-head.ensures i) (args i)) ∙ closed_applied o ρ h c.t.inside.args.items ∙ ap (closed o ρ) c.t.view_is)
    c.applied.ensures

pub close_args-close_arg-requires : goal.close_args-close_arg-requires
close_args-close_arg-requires t c =
    (omega (arith, c.decreases, arg_smaller c.args.args.now c.loop-arg.arg-index c.arg-item.result _ c.loop-arg-test.true c.arg-item.is), tt)

pub close_all-close-requires : goal.close_all-close-requires
close_all-close-requires t c =
    (omega (arith, c.decreases, term_smaller c.args.elements.now c.loop-element.element-index c.element-item.result _ c.loop-element-test.true c.element-item.is), tt)

pub close_group-close_binding-requires : goal.close_group-close_binding-requires
close_group-close_binding-requires t c =
    (omega (arith, c.decreases, binding_smaller c.args.bindings.now c.loop-binding.binding-index c.binding-item.result _ c.loop-binding-test.true c.binding-item.is), tt)

pub close_alts-close_alt-requires : goal.close_alts-close_alt-requires
close_alts-close_alt-requires t c =
    (omega (arith, c.decreases, alt_smaller c.args.alts.now c.loop-alt.alt-index c.alt-item.result _ c.loop-alt-test.true c.alt-item.is), tt)

-- the forms of heads
pub close_lam-returns : goal.close_lam-returns
close_lam-returns t c =
    let o = origins_of c.args.scene.now in
    let ρ = to_lambdas (numbers c.args.free.now) in
    let body = c.in_ok-body.ensures
    ∙ ap (λ n. closed o (lift_by n ρ) c.args.body.now) c.in_ok-inner.ensures in
    subst (λ y. IfOk c.lam.result (λ e. e ≡ y))
    ((λ i. lam (c.in_ok-ty.ensures i) (body i))
    ∙ closed_lam o c.args.under ρ c.args.ty.now c.args.body.now)
    c.lam.ensures

pub close_letrec-returns : goal.close_letrec-returns
close_letrec-returns t c =
    let o = origins_of c.args.scene.now in
    let ρ = to_lambdas (numbers c.args.free.now) in
    let bs = c.args.bindings.now in
    subst (λ y. IfOk c.letrec.result (λ e. e ≡ y))
    ((λ i. letrec (group_of (c.in_ok-group.ensures i)) (c.in_ok-body.ensures i))
    ∙ ap (λ n. letrec (group_of (map (closed_binding o (lift_by n ρ)) bs))
    (closed o (lift_by n ρ) c.args.body.now)) c.in_ok-inner.ensures
    ∙ closed_letrec o c.args.under ρ bs c.args.body.now)
    c.letrec.ensures

pub close_vec-returns : goal.close_vec-returns
close_vec-returns t c =
    let o = origins_of c.args.scene.now in
    let ρ = lift_by c.args.under (to_lambdas (numbers c.args.free.now)) in
    c.vec_lit.ensures
    ∙ (λ i. vec_lit (c.in_ok-ty.ensures i) (terms_of (c.in_ok-all.ensures i)))
    ∙ closed_vec o ρ c.args.ty.now c.args.elements.now

pub close_case-returns : goal.close_case-returns
close_case-returns t c =
    let o = origins_of c.args.scene.now in
    let ρ = lift_by c.args.under (to_lambdas (numbers c.args.free.now)) in
    subst (λ y. IfOk c.case.result (λ e. e ≡ y))
    ((λ i. case_of (c.in_ok-on.ensures i) (alts_of (c.in_ok-done.ensures i)))
    ∙ closed_case o ρ c.args.on.now c.args.alts.now)
    c.case.ensures

pub close_head-returns-in_ok-inner-in-TyLam : goal.close_head-returns-in_ok-inner-in-TyLam
close_head-returns-in_ok-inner-in-TyLam t c =
    let o = origins_of c.args.scene.now in
    let ρ = lift_by c.args.under (to_lambdas (numbers c.args.free.now)) in
    let k = c.in-TyLam.kind in
    let body = c.in_ok-inner-in-TyLam.ensures ∙ ap (closed o ρ) c.deref-in-TyLam.ensures in
    subst (λ y. IfOk c.ty_lam.result (λ e. e ≡ y))
    (ap (ty_lam k) body
    ∙ closed_ty_lam o ρ k c.in-TyLam.body.value
    ∙ ap (λ h. closed o ρ (tree_of h)) (sym c.in-TyLam.is))
    c.ty_lam.ensures

pub close_alt-returns : goal.close_alt-returns
close_alt-returns t c =
    let o = origins_of c.args.scene.now in
    let ρ = to_lambdas (numbers c.args.free.now) in
    let a = c.args.alt.now in
    let under = c.in_ok-inner.ensures ∙ ap (λ n. c.args.under + n) c.binders.ensures in
    λ i. record {
      pattern = c.in_ok-pattern.ensures i;
      body = (c.in_ok-body.ensures ∙ closed_below o c.args.under ρ a c.in_ok-inner.inner under) i;
    }

pub close_head-returns-in_ok-renamed-in-Var : goal.close_head-returns-in_ok-renamed-in-Var
close_head-returns-in_ok-renamed-in-Var t c =
    let o = origins_of c.args.scene.now in
    let ρ = lift_by c.args.under (to_lambdas (numbers c.args.free.now)) in
    c.var.ensures
    ∙ closed_var o ρ c.in-Var.x.number c.in_ok-renamed-in-Var.field-0.number
    c.in_ok-renamed-in-Var.ensures
    ∙ ap (λ h. closed o ρ (tree_of h)) (sym c.in-Var.is)

pub close_head-returns-in-Global : goal.close_head-returns-in-Global
close_head-returns-in-Global t c =
    let o = origins_of c.args.scene.now in
    let ρ = lift_by c.args.under (to_lambdas (numbers c.args.free.now)) in
    c.global.ensures
    ∙ closed_global o ρ c.in-Global.d.number
    ∙ ap (λ h. closed o ρ (tree_of h)) (sym c.in-Global.is)

pub close_head-returns-in-Made : goal.close_head-returns-in-Made
close_head-returns-in-Made t c =
    let o = origins_of c.args.scene.now in
    let ρ = lift_by c.args.under (to_lambdas (numbers c.args.free.now)) in
    subst (λ y. IfOk c.origin_at.result (λ e. e ≡ y))
    (closed_made o ρ c.in-Made.m.number ∙ ap (λ h. closed o ρ (tree_of h)) (sym c.in-Made.is))
    c.origin_at.ensures

pub close_head-returns-in-Con : goal.close_head-returns-in-Con
close_head-returns-in-Con t c =
    let o = origins_of c.args.scene.now in
    let ρ = lift_by c.args.under (to_lambdas (numbers c.args.free.now)) in
    c.con.ensures
    ∙ closed_con o ρ c.in-Con.c.number
    ∙ ap (λ h. closed o ρ (tree_of h)) (sym c.in-Con.is)

pub close_head-returns-in-PrimOf : goal.close_head-returns-in-PrimOf
close_head-returns-in-PrimOf t c =
    let o = origins_of c.args.scene.now in
    let ρ = lift_by c.args.under (to_lambdas (numbers c.args.free.now)) in
    c.prim_of.ensures
    ∙ closed_prim o ρ c.in-PrimOf.which
    ∙ ap (λ h. closed o ρ (tree_of h)) (sym c.in-PrimOf.is)

pub close_head-returns-in_ok-copy-in-Lit : goal.close_head-returns-in_ok-copy-in-Lit
close_head-returns-in_ok-copy-in-Lit t c =
    let o = origins_of c.args.scene.now in
    let ρ = lift_by c.args.under (to_lambdas (numbers c.args.free.now)) in
    c.lit.ensures
    ∙ ap (lit c.in-Lit.sort) c.in_ok-copy-in-Lit.ensures
    ∙ closed_lit o ρ c.in-Lit.sort c.in-Lit.bits
    ∙ ap (λ h. closed o ρ (tree_of h)) (sym c.in-Lit.is)
