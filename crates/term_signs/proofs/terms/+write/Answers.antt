use Rattle.std.proofs.Common.{◌≡◌, ◌∙◌, ap, sym, subst, refl, OnOk, [], ◌∷◌, ◌++◌, map, reverse, append_assoc, arith}
use Rattle.std.specs.List.{flat_map}
use Rattle.chw_terms.specs.Evaluated.{evaluated}
use Rattle.chw_terms.specs.PartsFall.{alt_smaller, arg_smaller, binding_smaller, term_smaller}
use Rattle.chw_terms.specs.TermFalls.{applied_size}
use Rattle.chw_terms.specs.TermSize.{tree_size, args_size}
use Rattle.chw_terms.specs.TermView.{tree_of, applied, terms_of, group_of, alts_of}
use Rattle.term_signs.specs.declared.alphabet.Form.TheVariants.{Lam, TyLam, LetRec, Elements, Case, OneTerm, NoTerms, OneBinding, NoBindings, OneAlt, NoAlts}
use Rattle.term_signs.specs.declared.alphabet.Sign.TheVariants.{Of, OfKind}
use Rattle.term_signs.specs.TypeSigns.{type_signs}
use Rattle.term_signs.specs.TermSigns.{pattern_signs}
use Rattle.term_signs.specs.Written.{written, written_all, written_group, written_alts, mark, in_arg, in_element, in_binding, in_alt}
use Rattle.term_signs.proofs.Behind.{then_written, written_next, written_end}
use Rattle.term_signs.proofs.TermsWritten.{spine_written, all_written, group_written, alts_written, lam_written, ty_lam_written, letrec_written, vec_written, case_written}
use Rattle.term_signs.proofs.terms.+write.Goals as goal

-- a head at arguments
pub write-write_head-requires : goal.write-write_head-requires
write-write_head-requires t c =
    let h = tree_of c.term.inside.head in
    let whole : tree_size (applied h c.term.inside.args.items) ≡ tree_size c.args.term.now = ap tree_size c.term.view_is in
    (omega (arith, c.decreases, whole, applied_size h c.term.inside.args.items), tt)

pub write-write_arg-requires : goal.write-write_arg-requires
write-write_arg-requires t c =
    let h = tree_of c.term.inside.head in
    let whole : tree_size (applied h c.term.inside.args.items) ≡ tree_size c.args.term.now = ap tree_size c.term.view_is in
    let all : args_size c.deref-arg-items.result.now ≡ args_size c.term.inside.args.items = ap args_size c.deref-arg-items.ensures.value in
    (omega (arith, c.decreases, whole, all, applied_size h c.term.inside.args.items, arg_smaller c.deref-arg-items.result.now c.loop-arg.arg-index c.arg-item.result _ c.loop-arg-test.true c.arg-item.is), tt)

pub write-loop-arg-preserved : goal.write-loop-arg-preserved
write-loop-arg-preserved t c =
    written_next in_arg c.deref-arg-items.result.now c.loop-arg.arg-index c.arg-item.result c.write_head.new.out.items c.loop-arg.out.items c.write_arg.new.out.items c.loop-arg-test.true c.arg-item.is
    c.loop-arg.invariant c.in_ok-write_arg.ensures

pub write-returns : goal.write-returns
write-returns t c =
    let h = tree_of c.term.inside.head in
    let args = c.term.inside.args.items in
    let items = c.deref-arg-items.result.now in
    let all = c.deref-arg-items.ensures.value in
    written_end in_arg items c.loop-arg.arg-index c.write_head.new.out.items c.loop-arg.out.items (omega (arith, c.loop-arg-test.false)) c.loop-arg.invariant
    ∙ (λ i. c.in_ok-write_head.ensures i ++ flat_map in_arg (all i))
    ∙ append_assoc c.write_marks.new.out.items (written h) (flat_map in_arg args)
    ∙ then_written c.args.out.now.items _ (map mark (reverse args)) (written h ++ flat_map in_arg args) (written h ++ flat_map in_arg args) (written c.args.term.now)
    (c.in_ok-write_marks.ensures ∙ ap (λ args. c.args.out.now.items ++ map mark (reverse args)) c.deref.ensures.value) refl
    (spine_written h args ∙ ap written c.term.view_is)

-- the forms of heads
pub write_head-returns-in_ok-write_typed-in-Lam : goal.write_head-returns-in_ok-write_typed-in-Lam
write_head-returns-in_ok-write_typed-in-Lam t c =
    let ty = c.in-Lam.ty in
    let e = c.in-Lam.body.value in
    subst (λ xs. OnOk c.write.result (c.write.new.out.items ≡ xs))
    (then_written c.args.out.now.items _ (Of Lam ∷ type_signs (evaluated ty)) _ (written e) (written (tree_of c.args.head.now)) c.in_ok-write_typed-in-Lam.ensures (ap written c.deref.ensures)
    (lam_written ty e ∙ ap (λ h. written (tree_of h)) (sym c.in-Lam.is)))
    c.write.ensures

pub write_head-returns-in_ok-write_kind-in-TyLam : goal.write_head-returns-in_ok-write_kind-in-TyLam
write_head-returns-in_ok-write_kind-in-TyLam t c =
    let k = c.in-TyLam.kind in
    let e = c.in-TyLam.body.value in
    subst (λ xs. OnOk c.write-in-TyLam.result (c.write-in-TyLam.new.out.items ≡ xs))
    (then_written c.args.out.now.items _ (Of TyLam ∷ OfKind k ∷ []) _ (written e) (written (tree_of c.args.head.now)) c.in_ok-write_kind-in-TyLam.ensures (ap written c.deref-in-TyLam.ensures)
    (ty_lam_written k e ∙ ap (λ h. written (tree_of h)) (sym c.in-TyLam.is)))
    c.write-in-TyLam.ensures

pub write_head-returns-in_ok-write_group-in-LetRec : goal.write_head-returns-in_ok-write_group-in-LetRec
write_head-returns-in_ok-write_group-in-LetRec t c =
    let bs = c.in-LetRec.bindings.items in
    let e = c.in-LetRec.body.value in
    subst (λ xs. OnOk c.write-in-LetRec.result (c.write-in-LetRec.new.out.items ≡ xs))
    (then_written c.args.out.now.items _ (written_group (group_of bs)) _ (written e) (written (tree_of c.args.head.now))
    (c.in_ok-write_group-in-LetRec.ensures ∙ ap (λ bs. c.args.out.now.items ++ written_group (group_of bs)) c.deref-in-LetRec.ensures.value) (ap written c.deref-in-LetRec-2.ensures)
    (letrec_written bs e ∙ ap (λ h. written (tree_of h)) (sym c.in-LetRec.is)))
    c.write-in-LetRec.ensures

pub write_head-returns-in_ok-write_typed-in-VecLit : goal.write_head-returns-in_ok-write_typed-in-VecLit
write_head-returns-in_ok-write_typed-in-VecLit t c =
    let ty = c.in-VecLit.ty in
    let es = c.in-VecLit.elements.items in
    subst (λ xs. OnOk c.write_all.result (c.write_all.new.out.items ≡ xs))
    (then_written c.args.out.now.items _ (Of Elements ∷ type_signs (evaluated ty)) _ (written_all (terms_of es)) (written (tree_of c.args.head.now)) c.in_ok-write_typed-in-VecLit.ensures
    (ap (λ es. written_all (terms_of es)) c.deref-in-VecLit.ensures.value)
    (vec_written ty es ∙ ap (λ h. written (tree_of h)) (sym c.in-VecLit.is)))
    c.write_all.ensures

pub write_head-returns-in_ok-write-in-Case : goal.write_head-returns-in_ok-write-in-Case
write_head-returns-in_ok-write-in-Case t c =
    let s = c.in-Case.on.value in
    let alts = c.in-Case.alts.items in
    let rest = written_alts (alts_of alts) in
    subst (λ xs. OnOk c.write_alts.result (c.write_alts.new.out.items ≡ xs))
    ((λ i. c.in_ok-write-in-Case.ensures i ++ written_alts (alts_of (c.deref-in-Case-2.ensures.value i)))
    ∙ append_assoc _ (written c.deref-in-Case.result.now) rest
    ∙ then_written c.args.out.now.items _ (Of Case ∷ []) (written c.deref-in-Case.result.now ++ rest) (written s ++ rest) (written (tree_of c.args.head.now)) c.in_ok-push-in-Case.ensures.items
    (ap (λ e. written e ++ rest) c.deref-in-Case.ensures)
    (case_written s alts ∙ ap (λ h. written (tree_of h)) (sym c.in-Case.is)))
    c.write_alts.ensures

-- the parts of lists
pub write_all-write_element-requires : goal.write_all-write_element-requires
write_all-write_element-requires t c =
    (omega (arith, c.decreases, term_smaller c.args.elements.now c.loop-element.element-index c.element-item.result _ c.loop-element-test.true c.element-item.is), tt)

pub write_all-loop-element-preserved : goal.write_all-loop-element-preserved
write_all-loop-element-preserved t c =
    written_next in_element c.args.elements.now c.loop-element.element-index c.element-item.result c.args.out.now.items c.loop-element.out.items c.write_element.new.out.items c.loop-element-test.true c.element-item.is
    c.loop-element.invariant c.in_ok-write_element.ensures

pub write_all-returns : goal.write_all-returns
write_all-returns t c =
    let es = c.args.elements.now in
    let out = c.args.out.now.items in
    c.in_ok-push.ensures.items
    ∙ ap (λ xs. xs ++ Of NoTerms ∷ []) (written_end in_element es c.loop-element.element-index out c.loop-element.out.items (omega (arith, c.loop-element-test.false)) c.loop-element.invariant)
    ∙ append_assoc out (flat_map in_element es) (Of NoTerms ∷ [])
    ∙ ap (λ xs. out ++ xs) (all_written es)

pub write_element-returns : goal.write_element-returns
write_element-returns t c =
    let e = c.args.element.now in
    subst (λ xs. OnOk c.write.result (c.write.new.out.items ≡ xs))
    (then_written c.args.out.now.items _ (Of OneTerm ∷ []) (written e) (written e) (in_element e) c.in_ok-push.ensures.items refl refl)
    c.write.ensures

pub write_group-write_binding-requires : goal.write_group-write_binding-requires
write_group-write_binding-requires t c =
    (omega (arith, c.decreases, binding_smaller c.args.group.now c.loop-binding.binding-index c.binding-item.result _ c.loop-binding-test.true c.binding-item.is), tt)

pub write_group-loop-binding-preserved : goal.write_group-loop-binding-preserved
write_group-loop-binding-preserved t c =
    written_next in_binding c.args.group.now c.loop-binding.binding-index c.binding-item.result c.push.new.self.items c.loop-binding.out.items c.write_binding.new.out.items c.loop-binding-test.true c.binding-item.is
    c.loop-binding.invariant c.in_ok-write_binding.ensures

pub write_group-returns : goal.write_group-returns
write_group-returns t c =
    let bs = c.args.group.now in
    let all = flat_map in_binding bs ++ Of NoBindings ∷ [] in
    c.in_ok-push-2.ensures.items
    ∙ ap (λ xs. xs ++ Of NoBindings ∷ []) (written_end in_binding bs c.loop-binding.binding-index c.push.new.self.items c.loop-binding.out.items (omega (arith, c.loop-binding-test.false)) c.loop-binding.invariant)
    ∙ append_assoc c.push.new.self.items (flat_map in_binding bs) (Of NoBindings ∷ [])
    ∙ then_written c.args.out.now.items _ (Of LetRec ∷ []) all all (written_group (group_of bs)) c.in_ok-push.ensures.items refl (group_written bs)

pub write_binding-returns : goal.write_binding-returns
write_binding-returns t c =
    let b = c.args.binding.now in
    subst (λ xs. OnOk c.write.result (c.write.new.out.items ≡ xs))
    (then_written c.args.out.now.items _ (Of OneBinding ∷ type_signs (evaluated b.ty)) (written b.body) (written b.body) (in_binding b) c.in_ok-write_typed.ensures refl refl)
    c.write.ensures

pub write_alts-write_alt-requires : goal.write_alts-write_alt-requires
write_alts-write_alt-requires t c =
    (omega (arith, c.decreases, alt_smaller c.args.alts.now c.loop-alt.alt-index c.alt-item.result _ c.loop-alt-test.true c.alt-item.is), tt)

pub write_alts-loop-alt-preserved : goal.write_alts-loop-alt-preserved
write_alts-loop-alt-preserved t c =
    written_next in_alt c.args.alts.now c.loop-alt.alt-index c.alt-item.result c.args.out.now.items c.loop-alt.out.items c.write_alt.new.out.items c.loop-alt-test.true c.alt-item.is
    c.loop-alt.invariant c.in_ok-write_alt.ensures

pub write_alts-returns : goal.write_alts-returns
write_alts-returns t c =
    let alts = c.args.alts.now in
    let out = c.args.out.now.items in
    c.in_ok-push.ensures.items
    ∙ ap (λ xs. xs ++ Of NoAlts ∷ []) (written_end in_alt alts c.loop-alt.alt-index out c.loop-alt.out.items (omega (arith, c.loop-alt-test.false)) c.loop-alt.invariant)
    ∙ append_assoc out (flat_map in_alt alts) (Of NoAlts ∷ [])
    ∙ ap (λ xs. out ++ xs) (alts_written alts)

pub write_alt-returns : goal.write_alt-returns
write_alt-returns t c =
    let a = c.args.alt.now in
    let both = pattern_signs a.pattern ++ written a.body in
    subst (λ xs. OnOk c.write.result (c.write.new.out.items ≡ xs))
    ((λ i. c.in_ok-write_pattern.ensures i ++ written a.body)
    ∙ append_assoc c.push.new.self.items (pattern_signs a.pattern) (written a.body)
    ∙ then_written c.args.out.now.items _ (Of OneAlt ∷ []) both both (in_alt a) c.in_ok-push.ensures.items refl refl)
    c.write.ensures
