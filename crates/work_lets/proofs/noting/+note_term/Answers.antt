use Rattle.std.proofs.Common.{◌≡◌, ◌+◌, length, ap, sym, subst, arith, rules}
use Rattle.std.proofs.lemmas.Result.{on_ok_weaker}
use Rattle.chw_terms.specs.PartsFall.{alt_smaller, arg_smaller, binding_smaller, term_smaller}
use Rattle.chw_terms.specs.TermFalls.{applied_size}
use Rattle.chw_terms.specs.TermSize.{tree_size, args_size}
use Rattle.chw_terms.specs.declared.term.Head.{Head}
use Rattle.chw_terms.specs.Occurs.{occurs}
use Rattle.chw_terms.specs.Sought.{any_of, occurs_in, occurs_in_binding, occurs_in_alt}
use Rattle.chw_terms.specs.TermView.{tree_of, applied}
use Rattle.work_lets.specs.Searching.{Noted, beyond}
use Rattle.work_lets.proofs.NotedParts.{noted_leaf, noted_applied, noted_lam, noted_ty_lam, noted_letrec, noted_vec, noted_case, noted_next}
use Rattle.work_lets.proofs.noting.+note_term.Goals as goal

-- a head at arguments
pub note_term-note_head-requires : goal.note_term-note_head-requires
note_term-note_head-requires t c =
    let h = tree_of c.term.inside.head in
    let whole : tree_size (applied h c.term.inside.args.items) ≡ tree_size c.args.term.now = ap tree_size c.term.view_is in
    (omega (arith, c.decreases, whole, applied_size h c.term.inside.args.items), tt)

pub note_term-note_args-requires : goal.note_term-note_args-requires
note_term-note_args-requires t c =
    let h = tree_of c.term.inside.head in
    let whole : tree_size (applied h c.term.inside.args.items) ≡ tree_size c.args.term.now = ap tree_size c.term.view_is in
    let all : args_size c.deref.result.now ≡ args_size c.term.inside.args.items = ap args_size c.deref.ensures.value in
    (omega (arith, c.decreases, whole, all, applied_size h c.term.inside.args.items), tt)

pub note_term-returns : goal.note_term-returns
note_term-returns t c =
    let s = c.args.search.now in
    let under = c.args.under in
    let h = tree_of c.term.inside.head in
    let first = c.note_head.new.search in
    let last = c.note_args.new.search in
    on_ok_weaker c.note_args.result
    (λ m. subst (λ e. Noted s (beyond (occurs e) under) last) c.term.view_is
    (noted_applied s first last under h c.term.inside.args.items c.in_ok-note_head.ensures (subst (λ args. Noted first (beyond (any_of occurs_in args) under) last) c.deref.ensures.value m)))
    c.note_args.ensures

pub note_args-note_arg-requires : goal.note_args-note_arg-requires
note_args-note_arg-requires t c =
    (omega (arith, c.decreases, arg_smaller c.args.args.now c.loop-arg.arg-index c.arg-item.result _ c.loop-arg-test.true c.arg-item.is), tt)

pub note_args-loop-arg-preserved : goal.note_args-loop-arg-preserved
note_args-loop-arg-preserved t c =
    noted_next c.args.search.now c.loop-arg.search c.note_arg.new.search occurs_in c.args.under c.args.args.now c.loop-arg.arg-index c.arg-item.result c.loop-arg-test.true c.arg-item.is c.loop-arg.invariant c.in_ok-note_arg.ensures

-- the forms of heads
pub note_head-returns-in-Lam : goal.note_head-returns-in-Lam
note_head-returns-in-Lam t c =
    let s = c.args.search.now in
    let last = c.note_under.new.search in
    let under = c.args.under in
    on_ok_weaker c.note_under.result
    (λ m. subst (λ (h : Head). Noted s (beyond (occurs (tree_of h)) under) last) (sym c.in-Lam.is)
    (noted_lam s last under c.in-Lam.field-0 c.in-Lam.body.value (subst (λ e. Noted s (beyond (occurs e) (under + 1)) last) c.deref.ensures m)))
    c.note_under.ensures

pub note_head-returns-in-TyLam : goal.note_head-returns-in-TyLam
note_head-returns-in-TyLam t c =
    let s = c.args.search.now in
    let last = c.note_term.new.search in
    let under = c.args.under in
    on_ok_weaker c.note_term.result
    (λ m. subst (λ (h : Head). Noted s (beyond (occurs (tree_of h)) under) last) (sym c.in-TyLam.is)
    (noted_ty_lam s last under c.in-TyLam.field-0 c.in-TyLam.body.value (subst (λ e. Noted s (beyond (occurs e) under) last) c.deref-in-TyLam.ensures m)))
    c.note_term.ensures

pub note_head-returns-in-VecLit : goal.note_head-returns-in-VecLit
note_head-returns-in-VecLit t c =
    let s = c.args.search.now in
    let last = c.note_elements.new.search in
    let under = c.args.under in
    on_ok_weaker c.note_elements.result
    (λ m. subst (λ (h : Head). Noted s (beyond (occurs (tree_of h)) under) last) (sym c.in-VecLit.is)
    (noted_vec s last under c.in-VecLit.field-0 c.in-VecLit.elements.items (subst (λ es. Noted s (beyond (any_of occurs es) under) last) c.deref-in-VecLit.ensures.value m)))
    c.note_elements.ensures

pub note_head-returns-in-Global : goal.note_head-returns-in-Global
note_head-returns-in-Global t c = noted_leaf c.args.search.now c.args.under c.args.head.now (search rules)

pub note_head-returns-in-Global-2 : goal.note_head-returns-in-Global-2
note_head-returns-in-Global-2 t c = noted_leaf c.args.search.now c.args.under c.args.head.now (search rules)

pub note_head-returns-in-Global-3 : goal.note_head-returns-in-Global-3
note_head-returns-in-Global-3 t c = noted_leaf c.args.search.now c.args.under c.args.head.now (search rules)

pub note_head-returns-in-Global-4 : goal.note_head-returns-in-Global-4
note_head-returns-in-Global-4 t c = noted_leaf c.args.search.now c.args.under c.args.head.now (search rules)

pub note_head-returns-in-Global-5 : goal.note_head-returns-in-Global-5
note_head-returns-in-Global-5 t c = noted_leaf c.args.search.now c.args.under c.args.head.now (search rules)

-- a group and its body
pub note_letrec-returns : goal.note_letrec-returns
note_letrec-returns t c =
    let bs = c.args.bindings.now in
    let inner : c.in_ok-inner.inner ≡ c.args.under + length bs = omega (arith, c.in_ok-inner.ensures, c.in_ok-count.ensures) in
    on_ok_weaker c.note_term.result
    (noted_letrec c.args.search.now c.note_sides.new.search c.note_term.new.search c.args.under c.in_ok-inner.inner bs c.args.body.now inner c.in_ok-note_sides.ensures)
    c.note_term.ensures

pub note_sides-note_term-requires : goal.note_sides-note_term-requires
note_sides-note_term-requires t c =
    (omega (arith, c.decreases, binding_smaller c.args.bindings.now c.loop-binding.binding-index c.binding-item.result _ c.loop-binding-test.true c.binding-item.is), tt)

pub note_sides-loop-binding-preserved : goal.note_sides-loop-binding-preserved
note_sides-loop-binding-preserved t c =
    noted_next c.args.search.now c.loop-binding.search c.note_term.new.search occurs_in_binding c.args.under c.args.bindings.now c.loop-binding.binding-index c.binding-item.result c.loop-binding-test.true c.binding-item.is c.loop-binding.invariant c.in_ok-note_term.ensures

-- elements, and alternatives
pub note_elements-note_term-requires : goal.note_elements-note_term-requires
note_elements-note_term-requires t c =
    (omega (arith, c.decreases, term_smaller c.args.elements.now c.loop-element.element-index c.element-item.result _ c.loop-element-test.true c.element-item.is), tt)

pub note_elements-loop-element-preserved : goal.note_elements-loop-element-preserved
note_elements-loop-element-preserved t c =
    noted_next c.args.search.now c.loop-element.search c.note_term.new.search occurs c.args.under c.args.elements.now c.loop-element.element-index c.element-item.result c.loop-element-test.true c.element-item.is c.loop-element.invariant c.in_ok-note_term.ensures

pub note_case-returns : goal.note_case-returns
note_case-returns t c =
    on_ok_weaker c.note_alts.result (noted_case c.args.search.now c.note_term.new.search c.note_alts.new.search c.args.under c.args.on.now c.args.alts.now c.in_ok-note_term.ensures) c.note_alts.ensures

pub note_alts-note_alt-requires : goal.note_alts-note_alt-requires
note_alts-note_alt-requires t c =
    (omega (arith, c.decreases, alt_smaller c.args.alts.now c.loop-alt.alt-index c.alt-item.result _ c.loop-alt-test.true c.alt-item.is), tt)

pub note_alts-loop-alt-preserved : goal.note_alts-loop-alt-preserved
note_alts-loop-alt-preserved t c =
    noted_next c.args.search.now c.loop-alt.search c.note_alt.new.search occurs_in_alt c.args.under c.args.alts.now c.loop-alt.alt-index c.alt-item.result c.loop-alt-test.true c.alt-item.is c.loop-alt.invariant c.in_ok-note_alt.ensures
