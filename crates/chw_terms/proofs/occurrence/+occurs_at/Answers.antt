use Rattle.std.proofs.Common.{vec_len, ◌≡◌, ◌+◌, ◌-◌, ◌^◌, min, false, true, length, sym, ap, ◌∙◌, refl, arith, subst}
use Rattle.chw_terms.specs.Occurs.{occurs}
use Rattle.chw_terms.specs.TermTree.{binders}
use Rattle.chw_terms.specs.TermView.{tree_of}
use Rattle.chw_terms.specs.Sought.{Found, any_of, occurs_in, occurs_in_binding, occurs_in_alt}
use Rattle.chw_terms.proofs.Found.{found_told, none_at_next, found_at, found_none, found_head, found_args, found_body, found_group, found_elements, found_alts, found_deeper}
use Rattle.chw_terms.proofs.occurrence.+occurs_at.Goals as goal

pub occurs_at-returns-then-occurs_in_head : goal.occurs_at-returns-then-occurs_in_head
occurs_at-returns-then-occurs_in_head t c =
    subst (λ e. Found (occurs e) c.args.v true) c.t.view_is
    (found_head (tree_of c.t.inside.head) c.t.inside.args.items c.args.v (found_told (occurs (tree_of c.t.inside.head)) c.args.v c.occurs_in_head.result true c.if-occurs_in_head.true c.occurs_in_head.ensures))

pub occurs_at-loop-a-init : goal.occurs_at-loop-a-init
occurs_at-loop-a-init t c = (refl, λ w h. refl)

pub occurs_at-loop-a-preserved : goal.occurs_at-loop-a-preserved
occurs_at-loop-a-preserved t c =
    none_at_next occurs_in c.deref-a-items.result.now c.loop-a.a-index c.a-item.result c.args.v (omega arith) c.a-item.is c.loop-a.invariant
    (found_told (occurs_in c.a-item.result) c.args.v c.occurs_in_arg.result false c.if-occurs_in_arg.false c.occurs_in_arg.ensures)

pub occurs_at-returns-then-occurs_in_arg : goal.occurs_at-returns-then-occurs_in_arg
occurs_at-returns-then-occurs_in_arg t c =
    subst (λ e. Found (occurs e) c.args.v true) c.t.view_is
    (found_args (tree_of c.t.inside.head) c.t.inside.args.items c.args.v true (found_told (occurs (tree_of c.t.inside.head)) c.args.v c.occurs_in_head.result false c.if-occurs_in_head.false c.occurs_in_head.ensures)
    (subst (λ xs. Found (any_of occurs_in xs) c.args.v true) c.deref-a-items.ensures.value
    (found_at occurs_in c.deref-a-items.result.now c.loop-a.a-index c.a-item.result c.args.v (omega arith) c.a-item.is c.loop-a.invariant
    (found_told (occurs_in c.a-item.result) c.args.v c.occurs_in_arg.result true c.if-occurs_in_arg.true c.occurs_in_arg.ensures))))

pub occurs_at-returns : goal.occurs_at-returns
occurs_at-returns t c =
    subst (λ e. Found (occurs e) c.args.v false) c.t.view_is
    (found_args (tree_of c.t.inside.head) c.t.inside.args.items c.args.v false (found_told (occurs (tree_of c.t.inside.head)) c.args.v c.occurs_in_head.result false c.if-occurs_in_head.false c.occurs_in_head.ensures)
    (subst (λ xs. Found (any_of occurs_in xs) c.args.v false) c.deref-a-items.ensures.value
    (found_none occurs_in c.deref-a-items.result.now c.loop-a.a-index c.args.v (omega (arith, c.loop-a-test.false)) c.loop-a.invariant)))

pub occurs_in_head-returns-then-occurs_at : goal.occurs_in_head-returns-then-occurs_at
occurs_in_head-returns-then-occurs_at t c =
    let all : vec_len c.in-LetRec.bindings ≡ length c.in-LetRec.bindings.items = omega (arith, c.in-LetRec.bindings.ok.0) in
    subst (λ n. Found (occurs (tree_of n)) c.args.v true) (sym c.in-LetRec.is)
    (found_body c.in-LetRec.bindings.items c.in-LetRec.body.value c.args.v c.deeper-inner.result (c.deeper-inner.ensures ∙ ap (λ n. min (c.args.v + n) (2 ^ 64 - 1)) (c.len.ensures ∙ all))
    (subst (λ e. Found (occurs e) c.deeper-inner.result true) c.deref-in-LetRec.ensures (found_told (occurs c.deref-in-LetRec.result.now) c.deeper-inner.result c.occurs_at-in-LetRec.result true c.if-occurs_at.true c.occurs_at-in-LetRec.ensures)))

pub occurs_in_head-returns-then-occurs_at-2 : goal.occurs_in_head-returns-then-occurs_at-2
occurs_in_head-returns-then-occurs_at-2 t c =
    let all : vec_len c.in-LetRec.bindings ≡ length c.in-LetRec.bindings.items = omega (arith, c.in-LetRec.bindings.ok.0) in
    subst (λ n. Found (occurs (tree_of n)) c.args.v true) (sym c.in-LetRec.is)
    (found_group c.in-LetRec.bindings.items c.in-LetRec.body.value c.args.v c.deeper-inner.result true (c.deeper-inner.ensures ∙ ap (λ n. min (c.args.v + n) (2 ^ 64 - 1)) (c.len.ensures ∙ all))
    (subst (λ e. Found (occurs e) c.deeper-inner.result false) c.deref-in-LetRec.ensures (found_told (occurs c.deref-in-LetRec.result.now) c.deeper-inner.result c.occurs_at-in-LetRec.result false c.if-occurs_at.false c.occurs_at-in-LetRec.ensures))
    (subst (λ xs. Found (any_of occurs_in_binding xs) c.deeper-inner.result true) c.deref-b-items.ensures.value
    (found_at occurs_in_binding c.deref-b-items.result.now c.loop-b.b-index c.b-item.result c.deeper-inner.result (omega arith) c.b-item.is c.loop-b.invariant
    (found_told (occurs_in_binding c.b-item.result) c.deeper-inner.result c.occurs_at-in-loop-b.result true c.if-occurs_at-2.true c.occurs_at-in-loop-b.ensures))))

pub occurs_in_head-returns-then-occurs_at-3 : goal.occurs_in_head-returns-then-occurs_at-3
occurs_in_head-returns-then-occurs_at-3 t c =
    subst (λ n. Found (occurs (tree_of n)) c.args.v true) (sym c.in-VecLit.is)
    (found_elements _ c.in-VecLit.elements.items c.args.v true
    (subst (λ xs. Found (any_of occurs xs) c.args.v true) c.deref-e-items.ensures.value
    (found_at occurs c.deref-e-items.result.now c.loop-e.e-index c.e-item.result c.args.v (omega arith) c.e-item.is c.loop-e.invariant
    (found_told (occurs c.e-item.result) c.args.v c.occurs_at-in-loop-e.result true c.if-occurs_at-3.true c.occurs_at-in-loop-e.ensures))))

pub occurs_in_head-returns-then-occurs_at-5 : goal.occurs_in_head-returns-then-occurs_at-5
occurs_in_head-returns-then-occurs_at-5 t c =
    subst (λ n. Found (occurs (tree_of n)) c.args.v true) (sym c.in-Case.is)
    (found_alts c.in-Case.on.value c.in-Case.alts.items c.args.v true
    (subst (λ e. Found (occurs e) c.args.v false) c.deref-in-Case.ensures (found_told (occurs c.deref-in-Case.result.now) c.args.v c.occurs_at-in-Case.result false c.if-occurs_at-4.false c.occurs_at-in-Case.ensures))
    (subst (λ xs. Found (any_of occurs_in_alt xs) c.args.v true) c.deref-a-items.ensures.value
    (found_at occurs_in_alt c.deref-a-items.result.now c.loop-a.a-index c.a-item.result c.args.v (omega arith) c.a-item.is c.loop-a.invariant
    (found_deeper (occurs c.a-item.result.body) (binders c.a-item.result.pattern) c.args.v c.deeper-inner-in-loop-a.result true (c.deeper-inner-in-loop-a.ensures ∙ ap (λ n. min (c.args.v + n) (2 ^ 64 - 1)) (c.from.ensures ∙ c.binders.ensures))
    (found_told (occurs c.a-item.result.body) c.deeper-inner-in-loop-a.result c.occurs_at-in-loop-a.result true c.if-occurs_at-5.true c.occurs_at-in-loop-a.ensures)))))

pub occurs_in_head-returns-after-loop-b : goal.occurs_in_head-returns-after-loop-b
occurs_in_head-returns-after-loop-b t c =
    let all : vec_len c.in-LetRec.bindings ≡ length c.in-LetRec.bindings.items = omega (arith, c.in-LetRec.bindings.ok.0) in
    subst (λ n. Found (occurs (tree_of n)) c.args.v false) (sym c.in-LetRec.is)
    (found_group c.in-LetRec.bindings.items c.in-LetRec.body.value c.args.v c.deeper-inner.result false (c.deeper-inner.ensures ∙ ap (λ n. min (c.args.v + n) (2 ^ 64 - 1)) (c.len.ensures ∙ all))
    (subst (λ e. Found (occurs e) c.deeper-inner.result false) c.deref-in-LetRec.ensures (found_told (occurs c.deref-in-LetRec.result.now) c.deeper-inner.result c.occurs_at-in-LetRec.result false c.if-occurs_at.false c.occurs_at-in-LetRec.ensures))
    (subst (λ xs. Found (any_of occurs_in_binding xs) c.deeper-inner.result false) c.deref-b-items.ensures.value
    (found_none occurs_in_binding c.deref-b-items.result.now c.loop-b.b-index c.deeper-inner.result (omega (arith, c.loop-b-test.false)) c.loop-b.invariant)))

pub occurs_in_head-returns-after-loop-e : goal.occurs_in_head-returns-after-loop-e
occurs_in_head-returns-after-loop-e t c =
    subst (λ n. Found (occurs (tree_of n)) c.args.v false) (sym c.in-VecLit.is)
    (found_elements _ c.in-VecLit.elements.items c.args.v false
    (subst (λ xs. Found (any_of occurs xs) c.args.v false) c.deref-e-items.ensures.value
    (found_none occurs c.deref-e-items.result.now c.loop-e.e-index c.args.v (omega (arith, c.loop-e-test.false)) c.loop-e.invariant)))

pub occurs_in_head-returns-after-loop-a : goal.occurs_in_head-returns-after-loop-a
occurs_in_head-returns-after-loop-a t c =
    subst (λ n. Found (occurs (tree_of n)) c.args.v false) (sym c.in-Case.is)
    (found_alts c.in-Case.on.value c.in-Case.alts.items c.args.v false
    (subst (λ e. Found (occurs e) c.args.v false) c.deref-in-Case.ensures (found_told (occurs c.deref-in-Case.result.now) c.args.v c.occurs_at-in-Case.result false c.if-occurs_at-4.false c.occurs_at-in-Case.ensures))
    (subst (λ xs. Found (any_of occurs_in_alt xs) c.args.v false) c.deref-a-items.ensures.value
    (found_none occurs_in_alt c.deref-a-items.result.now c.loop-a.a-index c.args.v (omega (arith, c.loop-a-test.false)) c.loop-a.invariant)))
