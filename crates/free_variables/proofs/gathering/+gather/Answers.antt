use Rattle.std.proofs.Common.{vec_len, ◌≡◌, ◌+◌, ◌++◌, OnOk, length, ap, sym, ◌∙◌, arith, subst}
use Rattle.std.specs.List.{flat_map}
use Rattle.chw_terms.specs.PartsFall.{alt_smaller, arg_smaller, binding_smaller, term_smaller}
use Rattle.chw_terms.specs.TermFalls.{applied_size}
use Rattle.chw_terms.specs.TermSize.{tree_size, args_size}
use Rattle.chw_terms.specs.TermTree.{binders}
use Rattle.chw_terms.specs.TermView.{tree_of, applied, group_of, alts_of}
use Rattle.chw_terms.specs.FreeVariables.{occurrences, occurrences_group, occurrences_alts}
use Rattle.free_variables.specs.Gathered.{gathered, in_arg, in_alt, numbers_of}
use Rattle.free_variables.proofs.FreeParts.{gathered_both, gathered_under, gathered_next, gathered_end, all_occurrences, group_occurrences, alts_occurrences, spine_occurrences, lam_occurrences, letrec_occurrences, case_occurrences}
use Rattle.free_variables.proofs.gathering.+gather.Goals as goal

-- a head at arguments
pub gather-gather_head-requires : goal.gather-gather_head-requires
gather-gather_head-requires t c =
    let whole : tree_size (applied (tree_of c.t.inside.head) c.t.inside.args.items) ≡ tree_size c.args.t.now = ap tree_size c.t.view_is in
    (omega (arith, c.decreases, whole, applied_size (tree_of c.t.inside.head) c.t.inside.args.items), tt)

pub gather-gather_arg-requires : goal.gather-gather_arg-requires
gather-gather_arg-requires t c =
    let whole : tree_size (applied (tree_of c.t.inside.head) c.t.inside.args.items) ≡ tree_size c.args.t.now = ap tree_size c.t.view_is in
    let all : args_size c.deref-arg-items.result.now ≡ args_size c.t.inside.args.items = ap args_size c.deref-arg-items.ensures.value in
    (omega (arith, c.decreases, whole, all, applied_size (tree_of c.t.inside.head) c.t.inside.args.items, arg_smaller c.deref-arg-items.result.now c.loop-arg.arg-index c.arg-item.result _ c.loop-arg-test.true c.arg-item.is), tt)

pub gather-loop-arg-preserved : goal.gather-loop-arg-preserved
gather-loop-arg-preserved t c =
    gathered_next in_arg c.deref-arg-items.result.now c.loop-arg.arg-index c.arg-item.result c.args.under (numbers_of c.gather_head.new.seen.items) (numbers_of c.loop-arg.seen.items) (numbers_of c.gather_arg.new.seen.items) c.loop-arg-test.true c.arg-item.is c.loop-arg.invariant c.in_ok-gather_arg.ensures

pub gather-returns : goal.gather-returns
gather-returns t c =
    let h = tree_of c.t.inside.head in
    let under = c.args.under in
    let seen = (numbers_of c.args.seen.now.items) in
    gathered_end in_arg c.deref-arg-items.result.now c.loop-arg.arg-index under (numbers_of c.gather_head.new.seen.items) (numbers_of c.loop-arg.seen.items) (omega (arith, c.loop-arg-test.false)) c.loop-arg.invariant
    ∙ ap (gathered under (flat_map in_arg c.deref-arg-items.result.now)) c.in_ok-gather_head.ensures
    ∙ gathered_both under (occurrences h) (flat_map in_arg c.deref-arg-items.result.now) seen
    ∙ ap (λ args. gathered under (occurrences h ++ flat_map in_arg args) seen) c.deref-arg-items.ensures.value
    ∙ ap (λ xs. gathered under xs seen) (spine_occurrences h c.t.inside.args.items)
    ∙ ap (λ e. gathered under (occurrences e) seen) c.t.view_is

-- the parts of lists
pub gather_all-gather-requires : goal.gather_all-gather-requires
gather_all-gather-requires t c =
    (omega (arith, c.decreases, term_smaller c.args.elements.now c.loop-element.element-index c.element-item.result _ c.loop-element-test.true c.element-item.is), tt)

pub gather_all-loop-element-preserved : goal.gather_all-loop-element-preserved
gather_all-loop-element-preserved t c =
    gathered_next occurrences c.args.elements.now c.loop-element.element-index c.element-item.result c.args.under (numbers_of c.args.seen.now.items) (numbers_of c.loop-element.seen.items) (numbers_of c.gather.new.seen.items) c.loop-element-test.true c.element-item.is c.loop-element.invariant c.in_ok-gather.ensures

pub gather_all-returns : goal.gather_all-returns
gather_all-returns t c =
    gathered_end occurrences c.args.elements.now c.loop-element.element-index c.args.under (numbers_of c.args.seen.now.items) (numbers_of c.loop-element.seen.items) (omega (arith, c.loop-element-test.false)) c.loop-element.invariant
    ∙ ap (λ xs. gathered c.args.under xs (numbers_of c.args.seen.now.items)) (all_occurrences c.args.elements.now)

pub gather_alts-gather_alt-requires : goal.gather_alts-gather_alt-requires
gather_alts-gather_alt-requires t c =
    (omega (arith, c.decreases, alt_smaller c.args.alts.now c.loop-alt.alt-index c.alt-item.result _ c.loop-alt-test.true c.alt-item.is), tt)

pub gather_alts-loop-alt-preserved : goal.gather_alts-loop-alt-preserved
gather_alts-loop-alt-preserved t c =
    gathered_next in_alt c.args.alts.now c.loop-alt.alt-index c.alt-item.result c.args.under (numbers_of c.args.seen.now.items) (numbers_of c.loop-alt.seen.items) (numbers_of c.gather_alt.new.seen.items) c.loop-alt-test.true c.alt-item.is c.loop-alt.invariant c.in_ok-gather_alt.ensures

pub gather_alts-returns : goal.gather_alts-returns
gather_alts-returns t c =
    gathered_end in_alt c.args.alts.now c.loop-alt.alt-index c.args.under (numbers_of c.args.seen.now.items) (numbers_of c.loop-alt.seen.items) (omega (arith, c.loop-alt-test.false)) c.loop-alt.invariant
    ∙ ap (λ xs. gathered c.args.under xs (numbers_of c.args.seen.now.items)) (alts_occurrences c.args.alts.now)

pub gather_group-gather-requires : goal.gather_group-gather-requires
gather_group-gather-requires t c =
    (omega (arith, c.decreases, binding_smaller c.args.bindings.now c.loop-binding.binding-index c.binding-item.result _ c.loop-binding-test.true c.binding-item.is), tt)

pub gather_group-loop-binding-preserved : goal.gather_group-loop-binding-preserved
gather_group-loop-binding-preserved t c =
    gathered_next (λ b. occurrences b.body) c.args.bindings.now c.loop-binding.binding-index c.binding-item.result c.args.under (numbers_of c.args.seen.now.items) (numbers_of c.loop-binding.seen.items) (numbers_of c.gather.new.seen.items) c.loop-binding-test.true c.binding-item.is c.loop-binding.invariant c.in_ok-gather.ensures

pub gather_group-returns : goal.gather_group-returns
gather_group-returns t c =
    gathered_end (λ b. occurrences b.body) c.args.bindings.now c.loop-binding.binding-index c.args.under (numbers_of c.args.seen.now.items) (numbers_of c.loop-binding.seen.items) (omega (arith, c.loop-binding-test.false)) c.loop-binding.invariant
    ∙ ap (λ xs. gathered c.args.under xs (numbers_of c.args.seen.now.items)) (group_occurrences c.args.bindings.now)

pub gather_alt-returns : goal.gather_alt-returns
gather_alt-returns t c =
    subst (λ xs. OnOk c.gather.result ((numbers_of c.gather.new.seen.items) ≡ xs))
    (ap (λ n. gathered n (occurrences c.args.alt.now.body) (numbers_of c.args.seen.now.items)) (c.in_ok-inner.ensures ∙ ap (λ n. c.args.under + n) c.binders.ensures)
    ∙ gathered_under c.args.under (binders c.args.alt.now.pattern) (occurrences c.args.alt.now.body) (numbers_of c.args.seen.now.items))
    c.gather.ensures

-- the forms of heads
pub gather_head-returns-in_ok-deeper-in-Lam : goal.gather_head-returns-in_ok-deeper-in-Lam
gather_head-returns-in_ok-deeper-in-Lam t c =
    let e = c.in-Lam.body.value in
    let seen = (numbers_of c.args.seen.now.items) in
    subst (λ xs. OnOk c.gather.result ((numbers_of c.gather.new.seen.items) ≡ xs))
    ((λ i. gathered (c.in_ok-deeper-in-Lam.ensures i) (occurrences (c.deref.ensures i)) seen)
    ∙ gathered_under c.args.under 1 (occurrences e) seen
    ∙ ap (λ xs. gathered c.args.under xs seen) (lam_occurrences c.in-Lam.field-0 e)
    ∙ ap (λ h. gathered c.args.under (occurrences (tree_of h)) seen) (sym c.in-Lam.is))
    c.gather.ensures

pub gather_head-returns-in_ok-gather_group-in-LetRec : goal.gather_head-returns-in_ok-gather_group-in-LetRec
gather_head-returns-in_ok-gather_group-in-LetRec t c =
    let bs = c.in-LetRec.bindings.items in
    let e = c.in-LetRec.body.value in
    let seen = (numbers_of c.args.seen.now.items) in
    let all : vec_len c.in-LetRec.bindings ≡ length bs = omega (arith, c.in-LetRec.bindings.ok.0) in
    let inner : c.in_ok-inner-in-LetRec.inner ≡ c.args.under + length bs = c.in_ok-inner-in-LetRec.ensures ∙ ap (λ n. c.args.under + n) (c.len.ensures ∙ all) in
    subst (λ xs. OnOk c.gather-in-LetRec.result ((numbers_of c.gather-in-LetRec.new.seen.items) ≡ xs))
    ((λ i. gathered (inner i) (occurrences (c.deref-in-LetRec-2.ensures i)) (c.in_ok-gather_group-in-LetRec.ensures i))
    ∙ (λ i. gathered (c.args.under + length bs) (occurrences e) (gathered (inner i) (occurrences_group (group_of (c.deref-in-LetRec.ensures.value i))) seen))
    ∙ gathered_both (c.args.under + length bs) (occurrences_group (group_of bs)) (occurrences e) seen
    ∙ gathered_under c.args.under (length bs) (occurrences_group (group_of bs) ++ occurrences e) seen
    ∙ ap (λ xs. gathered c.args.under xs seen) (letrec_occurrences bs e)
    ∙ ap (λ h. gathered c.args.under (occurrences (tree_of h)) seen) (sym c.in-LetRec.is))
    c.gather-in-LetRec.ensures

pub gather_head-returns-in_ok-gather-in-Case : goal.gather_head-returns-in_ok-gather-in-Case
gather_head-returns-in_ok-gather-in-Case t c =
    let s = c.in-Case.on.value in
    let alts = c.in-Case.alts.items in
    let seen = (numbers_of c.args.seen.now.items) in
    subst (λ xs. OnOk c.gather_alts.result ((numbers_of c.gather_alts.new.seen.items) ≡ xs))
    ((λ i. gathered c.args.under (occurrences_alts (alts_of (c.deref-in-Case-2.ensures.value i))) (c.in_ok-gather-in-Case.ensures i))
    ∙ ap (λ e. gathered c.args.under (occurrences_alts (alts_of alts)) (gathered c.args.under (occurrences e) seen)) c.deref-in-Case.ensures
    ∙ gathered_both c.args.under (occurrences s) (occurrences_alts (alts_of alts)) seen
    ∙ ap (λ xs. gathered c.args.under xs seen) (case_occurrences s (alts_of alts))
    ∙ ap (λ h. gathered c.args.under (occurrences (tree_of h)) seen) (sym c.in-Case.is))
    c.gather_alts.ensures
