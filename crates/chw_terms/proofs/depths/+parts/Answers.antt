use Rattle.std.proofs.Common.{◌≡◌, ◌+◌, ◌<◌, vec_len, max, length, drop, sym, ap, ◌∙◌, arith, subst, eqb-true}
use Rattle.chw_types.specs.Polynomials.{ended}
use Rattle.chw_terms.specs.TermView.{tree_of}
use Rattle.chw_terms.specs.Depth.{depth, parts_depth}
use Rattle.chw_terms.specs.Deepest.{arg_depth, binding_depth, alt_depth, deepest_of}
use Rattle.chw_terms.proofs.Deep.{deepest_next, deepest_all, parts_bare, parts_found, lam_deep, letrec_deep, vec_deep, case_deep, binding_deep, term_deep, some_there}
use Rattle.chw_terms.proofs.depths.+parts.Goals as goal

pub parts-loop-a-preserved : goal.parts-loop-a-preserved
parts-loop-a-preserved t c =
    ap (λ n. max n (ended (deepest_of arg_depth (drop (c.loop-a.a-index + 1) c.deref-a-items.result.now)))) c.deeper-deepest.ensures
    ∙ deepest_next arg_depth c.deref-a-items.result.now c.loop-a.a-index c.a-item.result c.loop-a.deepest c.arg_depth.result _ (omega arith) c.a-item.is
    c.arg_depth.ensures c.loop-a.invariant

pub parts-returns-then-is_empty : goal.parts-returns-then-is_empty
parts-returns-then-is_empty t c =
    let counted : vec_len c.t.inside.args ≡ length c.t.inside.args.items = omega (arith, c.t.inside.args.ok.0) in
    parts_bare c.t.inside.head c.t.inside.args.items c.parts_of_head-of_head.result (sym counted ∙ eqb-true (vec_len c.t.inside.args) 0 (sym c.is_empty.ensures ∙ c.if-is_empty.true)) c.parts_of_head-of_head.ensures
    ∙ ap (λ e. ended (parts_depth e)) c.t.view_is

pub parts-returns : goal.parts-returns
parts-returns t c =
    let counted : vec_len c.t.inside.args ≡ length c.t.inside.args.items = omega (arith, c.t.inside.args.ok.0) in
    let all = c.deref-a-items.ensures.value in
    parts_found c.t.inside.head c.t.inside.args.items c.parts_of_head-of_head.result c.one_more-deepest.result c.loop-a.deepest (subst (λ n. 0 < n) counted (some_there (vec_len c.t.inside.args) (sym c.is_empty.ensures ∙ c.if-is_empty.false))) c.parts_of_head-of_head.ensures c.one_more-deepest.ensures
    (deepest_all arg_depth c.t.inside.args.items c.loop-a.a-index c.loop-a.deepest (max c.one_more-deepest.result (ended (deepest_of arg_depth c.t.inside.args.items))) (omega (arith, ap length all, c.loop-a-test.false)) (subst (λ xs. max c.loop-a.deepest (ended (deepest_of arg_depth (drop c.loop-a.a-index xs))) ≡ max c.one_more-deepest.result (ended (deepest_of arg_depth xs))) all c.loop-a.invariant))
    ∙ ap (λ e. ended (parts_depth e)) c.t.view_is

pub parts_of_head-returns-in-Lam : goal.parts_of_head-returns-in-Lam
parts_of_head-returns-in-Lam t c =
    lam_deep c.in-Lam.ty c.in-Lam.body.value c.type_depth.result c.parts.result c.one_more.result c.deeper.result c.type_depth.ensures (c.parts.ensures ∙ ap (λ e. ended (parts_depth e)) c.deref.ensures) c.one_more.ensures c.deeper.ensures
    ∙ ap (λ n. ended (parts_depth (tree_of n))) (sym c.in-Lam.is)

pub parts_of_head-loop-b-preserved : goal.parts_of_head-loop-b-preserved
parts_of_head-loop-b-preserved t c =
    ap (λ n. max n (ended (deepest_of binding_depth (drop (c.loop-b.b-index + 1) c.deref-b-items.result.now)))) c.deeper-deepest.ensures
    ∙ deepest_next binding_depth c.deref-b-items.result.now c.loop-b.b-index c.b-item.result c.loop-b.deepest c.deeper-one.result _ (omega arith) c.b-item.is
    (binding_deep c.b-item.result c.type_depth-in-loop-b.result c.parts-in-loop-b.result c.one_more-in-loop-b.result c.deeper-one.result c.type_depth-in-loop-b.ensures c.parts-in-loop-b.ensures c.one_more-in-loop-b.ensures c.deeper-one.ensures) c.loop-b.invariant

pub parts_of_head-loop-e-preserved : goal.parts_of_head-loop-e-preserved
parts_of_head-loop-e-preserved t c =
    ap (λ n. max n (ended (deepest_of depth (drop (c.loop-e.e-index + 1) c.deref-e-items.result.now)))) c.deeper-deepest-in-loop-e.ensures
    ∙ deepest_next depth c.deref-e-items.result.now c.loop-e.e-index c.e-item.result c.loop-e.deepest c.one_more-in-loop-e.result _ (omega arith) c.e-item.is
    (term_deep c.e-item.result c.parts-in-loop-e.result c.one_more-in-loop-e.result c.parts-in-loop-e.ensures c.one_more-in-loop-e.ensures) c.loop-e.invariant

pub parts_of_head-loop-a-preserved : goal.parts_of_head-loop-a-preserved
parts_of_head-loop-a-preserved t c =
    ap (λ n. max n (ended (deepest_of alt_depth (drop (c.loop-a.a-index + 1) c.deref-a-items.result.now)))) c.deeper-deepest-in-loop-a.ensures
    ∙ deepest_next alt_depth c.deref-a-items.result.now c.loop-a.a-index c.a-item.result c.loop-a.deepest c.one_more-in-loop-a.result _ (omega arith) c.a-item.is
    (term_deep c.a-item.result.body c.parts-in-loop-a.result c.one_more-in-loop-a.result c.parts-in-loop-a.ensures c.one_more-in-loop-a.ensures) c.loop-a.invariant

pub parts_of_head-returns-after-loop-b : goal.parts_of_head-returns-after-loop-b
parts_of_head-returns-after-loop-b t c =
    let all = c.deref-b-items.ensures.value in
    letrec_deep c.in-LetRec.bindings.items c.in-LetRec.body.value c.loop-b.deepest c.parts-in-LetRec.result c.one_more-in-LetRec.result c.deeper-in-LetRec.result
    (deepest_all binding_depth c.in-LetRec.bindings.items c.loop-b.b-index c.loop-b.deepest (ended (deepest_of binding_depth c.in-LetRec.bindings.items)) (omega (arith, ap length all, c.loop-b-test.false)) (subst (λ xs. max c.loop-b.deepest (ended (deepest_of binding_depth (drop c.loop-b.b-index xs))) ≡ ended (deepest_of binding_depth xs)) all c.loop-b.invariant))
    (c.parts-in-LetRec.ensures ∙ ap (λ e. ended (parts_depth e)) c.deref-in-LetRec.ensures) c.one_more-in-LetRec.ensures c.deeper-in-LetRec.ensures
    ∙ ap (λ n. ended (parts_depth (tree_of n))) (sym c.in-LetRec.is)

pub parts_of_head-returns-after-loop-e : goal.parts_of_head-returns-after-loop-e
parts_of_head-returns-after-loop-e t c =
    let all = c.deref-e-items.ensures.value in
    vec_deep c.in-VecLit.ty c.in-VecLit.elements.items c.type_depth-in-VecLit.result c.loop-e.deepest c.deeper-in-VecLit.result c.type_depth-in-VecLit.ensures
    (deepest_all depth c.in-VecLit.elements.items c.loop-e.e-index c.loop-e.deepest (ended (deepest_of depth c.in-VecLit.elements.items)) (omega (arith, ap length all, c.loop-e-test.false)) (subst (λ xs. max c.loop-e.deepest (ended (deepest_of depth (drop c.loop-e.e-index xs))) ≡ ended (deepest_of depth xs)) all c.loop-e.invariant))
    c.deeper-in-VecLit.ensures
    ∙ ap (λ n. ended (parts_depth (tree_of n))) (sym c.in-VecLit.is)

pub parts_of_head-returns-after-loop-a : goal.parts_of_head-returns-after-loop-a
parts_of_head-returns-after-loop-a t c =
    let all = c.deref-a-items.ensures.value in
    case_deep c.in-Case.on.value c.in-Case.alts.items c.parts-in-Case.result c.one_more-in-Case.result c.loop-a.deepest c.deeper-in-Case.result (c.parts-in-Case.ensures ∙ ap (λ e. ended (parts_depth e)) c.deref-in-Case.ensures) c.one_more-in-Case.ensures
    (deepest_all alt_depth c.in-Case.alts.items c.loop-a.a-index c.loop-a.deepest (ended (deepest_of alt_depth c.in-Case.alts.items)) (omega (arith, ap length all, c.loop-a-test.false)) (subst (λ xs. max c.loop-a.deepest (ended (deepest_of alt_depth (drop c.loop-a.a-index xs))) ≡ ended (deepest_of alt_depth xs)) all c.loop-a.invariant))
    c.deeper-in-Case.ensures
    ∙ ap (λ n. ended (parts_depth (tree_of n))) (sym c.in-Case.is)
