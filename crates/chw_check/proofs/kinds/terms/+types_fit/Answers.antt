use Rattle.std.proofs.Common.{◌≡◌, false, reverse, List, ap, refl, sym, ◌∙◌, subst, arith}
use Rattle.std.specs.Bool.{Decides}
use Rattle.std.specs.Prelude.{IfOk}
use Rattle.std.proofs.lemmas.Bool.Decides.{Decides-like, not_from_Decides}
use Rattle.std.proofs.lemmas.Result.{IfOk-weaker}
use Rattle.chw_terms.specs.PartsFall.{alt_smaller, arg_smaller, binding_smaller, term_smaller}
use Rattle.chw_terms.specs.TermFalls.{applied_size}
use Rattle.chw_terms.specs.TermSize.{tree_size, args_size}
use Rattle.chw_terms.specs.TermTree.{lam, ty_lam, letrec}
use Rattle.chw_terms.specs.TermView.{tree_of, applied, group_of}
use Rattle.chw_types.specs.declared.kind.Kind.{Kind}
use Rattle.chw_typing.specs.Programs.{setting_of}
use Rattle.chw_check.specs.Each.{Each}
use Rattle.chw_check.specs.Fits.{GroupFits, TypesFit}
use Rattle.chw_check.specs.FitParts.{ArgFits}
use Rattle.chw_check.proofs.EachItem.{beside, decided, refused, before_next, before_all, item_at, not_each}
use Rattle.chw_check.proofs.PartsFit.{AltFits, BindingFits, each_alt, each_binding, each_element, alts_fit, elements_fit, group_fits, parts_fit, spine_fits}
use Rattle.chw_check.proofs.kinds.terms.+types_fit.Goals as goal

-- a head at arguments
pub types_fit-head_fits-requires : goal.types_fit-head_fits-requires
types_fit-head_fits-requires t c =
    let h = tree_of c.term.inside.head in
    let whole : tree_size (applied h c.term.inside.args.items) ≡ tree_size c.args.term.now = ap tree_size c.term.view_is in
    (omega (arith, c.decreases, whole, applied_size h c.term.inside.args.items), tt)

pub types_fit-returns-then-not-branch-clause-fits : goal.types_fit-returns-then-not-branch-clause-fits
types_fit-returns-then-not-branch-clause-fits t c =
    let s = setting_of c.args.program.now in
    let kinds = reverse c.args.kinds.now.items in
    let h = tree_of c.term.inside.head in
    subst (λ e. Decides false (TypesFit s kinds e)) c.term.view_is
    (refused (λ g. not_from_Decides _ c.in_ok-head_fits.ensures.fits c.if-not-branch.true (parts_fit s kinds h c.term.inside.args.items g).0))

pub types_fit-args_fit-requires : goal.types_fit-args_fit-requires
types_fit-args_fit-requires t c =
    let h = tree_of c.term.inside.head in
    let whole : tree_size (applied h c.term.inside.args.items) ≡ tree_size c.args.term.now = ap tree_size c.term.view_is in
    let all : args_size c.deref.result.now ≡ args_size c.term.inside.args.items = ap args_size c.deref.ensures.value in
    (omega (arith, c.decreases, whole, all, applied_size h c.term.inside.args.items), tt)

pub types_fit-returns-clause-fits : goal.types_fit-returns-clause-fits
types_fit-returns-clause-fits t c =
    let s = setting_of c.args.program.now in
    let kinds = reverse c.args.kinds.now.items in
    let h = tree_of c.term.inside.head in
    let args = c.term.inside.args.items in
    let head = c.in_ok-head_fits.ensures.fits.0 c.if-not-branch.false in
    IfOk-weaker c.args_fit.result (λ b. Decides b (Each (ArgFits s (reverse c.head_fits.new.kinds.items)) c.deref.result.now)) (λ b. Decides b (TypesFit s kinds c.args.term.now))
    (λ b d. subst (λ e. Decides b (TypesFit s kinds e)) c.term.view_is
    (Decides-like b (λ g. spine_fits s kinds h args head g) (λ g. (parts_fit s kinds h args g).1)
    (subst (λ (ks : List Kind). Decides b (Each (ArgFits s (reverse ks)) args)) c.in_ok-head_fits.ensures.scope
    (subst (λ xs. Decides b (Each (ArgFits s (reverse c.head_fits.new.kinds.items)) xs)) c.deref.ensures.value d))))
    c.args_fit.ensures.fits

-- the forms of heads
pub head_fits-returns-in-Lam-clause-fits : goal.head_fits-returns-in-Lam-clause-fits
head_fits-returns-in-Lam-clause-fits t c =
    let s = setting_of c.args.program.now in
    let kinds = reverse c.args.kinds.now.items in
    subst (λ h. IfOk c.typed_fits.result (λ b. Decides b (TypesFit s kinds (tree_of h)))) (sym c.in-Lam.is)
    (subst (λ e. IfOk c.typed_fits.result (λ b. Decides b (TypesFit s kinds (lam c.in-Lam.ty e)))) c.deref.ensures c.typed_fits.ensures.fits)

pub head_fits-returns-in-TyLam-clause-fits : goal.head_fits-returns-in-TyLam-clause-fits
head_fits-returns-in-TyLam-clause-fits t c =
    let s = setting_of c.args.program.now in
    let kinds = reverse c.args.kinds.now.items in
    subst (λ h. IfOk c.fits_under.result (λ b. Decides b (TypesFit s kinds (tree_of h)))) (sym c.in-TyLam.is)
    (subst (λ e. IfOk c.fits_under.result (λ b. Decides b (TypesFit s kinds (ty_lam c.in-TyLam.kind e)))) c.deref-in-TyLam.ensures c.fits_under.ensures.fits)

pub head_fits-returns-else-not-branch-clause-fits : goal.head_fits-returns-else-not-branch-clause-fits
head_fits-returns-else-not-branch-clause-fits t c =
    let s = setting_of c.args.program.now in
    let kinds = reverse c.args.kinds.now.items in
    let bs = c.in-LetRec.bindings.items in
    let group = subst (λ xs. GroupFits s kinds (group_of xs)) c.deref-in-LetRec.ensures.value (c.in_ok-bindings_fit-in-LetRec.ensures.fits.0 c.if-not-branch.false) in
    subst (λ h. IfOk c.types_fit.result (λ b. Decides b (TypesFit s kinds (tree_of h)))) (sym c.in-LetRec.is)
    (IfOk-weaker c.types_fit.result (λ b. Decides b (TypesFit s (reverse c.bindings_fit.new.kinds.items) c.deref-in-LetRec-2.result.now)) (λ b. Decides b (TypesFit s kinds (letrec (group_of bs) c.in-LetRec.body.value)))
    (λ b d. beside b group
    (subst (λ (ks : List Kind). Decides b (TypesFit s (reverse ks) c.in-LetRec.body.value)) c.in_ok-bindings_fit-in-LetRec.ensures.scope
    (subst (λ e. Decides b (TypesFit s (reverse c.bindings_fit.new.kinds.items) e)) c.deref-in-LetRec-2.ensures d)))
    c.types_fit.ensures.fits)

-- arguments
pub args_fit-arg_fits-requires : goal.args_fit-arg_fits-requires
args_fit-arg_fits-requires t c =
    (omega (arith, c.decreases, arg_smaller c.args.args.now c.loop-arg.arg-index c.arg-item.result _ c.loop-arg-test.true c.arg-item.is), tt)

pub args_fit-returns-then-not-branch-clause-fits : goal.args_fit-returns-then-not-branch-clause-fits
args_fit-returns-then-not-branch-clause-fits t c =
    let s = setting_of c.args.program.now in
    let P = ArgFits s (reverse c.args.kinds.now.items) in
    let l = c.loop-arg in
    let here = item_at c.args.args.now c.args.args.now l.arg-index c.arg-item.result _ refl c.loop-arg-test.true c.arg-item.is in
    let told = subst (λ (ks : List Kind). Decides c.in_ok-arg_fits.field-0 (ArgFits s (reverse ks) c.arg-item.result)) l.invariant.scope c.in_ok-arg_fits.ensures.fits in
    refused (not_each P c.args.args.now l.arg-index c.arg-item.result c.in_ok-arg_fits.field-0 here told c.if-not-branch.true)

pub args_fit-loop-arg-preserved : goal.args_fit-loop-arg-preserved
args_fit-loop-arg-preserved t c =
    let s = setting_of c.args.program.now in
    let P = ArgFits s (reverse c.args.kinds.now.items) in
    let l = c.loop-arg in
    let here = item_at c.args.args.now c.args.args.now l.arg-index c.arg-item.result _ refl c.loop-arg-test.true c.arg-item.is in
    let told = subst (λ (ks : List Kind). Decides c.in_ok-arg_fits.field-0 (ArgFits s (reverse ks) c.arg-item.result)) l.invariant.scope c.in_ok-arg_fits.ensures.fits in
    record {
      scope = c.in_ok-arg_fits.ensures.scope ∙ l.invariant.scope;
      fit = before_next P c.args.args.now l.arg-index c.arg-item.result here l.invariant.fit (told.0 c.if-not-branch.false);
    }

pub args_fit-returns-clause-fits : goal.args_fit-returns-clause-fits
args_fit-returns-clause-fits t c =
    let P = ArgFits (setting_of c.args.program.now) (reverse c.args.kinds.now.items) in
    decided (before_all P c.args.args.now c.args.args.now c.loop-arg.arg-index refl c.loop-arg-test.false c.loop-arg.invariant.fit)

pub arg_fits-returns-in-OfTerm-clause-fits : goal.arg_fits-returns-in-OfTerm-clause-fits
arg_fits-returns-in-OfTerm-clause-fits t c =
    subst (λ a. IfOk c.types_fit.result (λ b. Decides b (ArgFits (setting_of c.args.program.now) (reverse c.args.kinds.now.items) a))) (sym c.in-OfTerm.is) c.types_fit.ensures.fits

-- the bindings of a letrec
pub bindings_fit-typed_fits-requires : goal.bindings_fit-typed_fits-requires
bindings_fit-typed_fits-requires t c =
    (omega (arith, c.decreases, binding_smaller c.args.bindings.now c.loop-binding.binding-index c.binding-item.result _ c.loop-binding-test.true c.binding-item.is), tt)

pub bindings_fit-returns-then-not-branch-clause-fits : goal.bindings_fit-returns-then-not-branch-clause-fits
bindings_fit-returns-then-not-branch-clause-fits t c =
    let s = setting_of c.args.program.now in
    let kinds = reverse c.args.kinds.now.items in
    let bs = c.args.bindings.now in
    let l = c.loop-binding in
    let here = item_at c.args.bindings.now c.args.bindings.now l.binding-index c.binding-item.result _ refl c.loop-binding-test.true c.binding-item.is in
    let told = subst (λ (ks : List Kind). Decides c.in_ok-typed_fits.field-0 (BindingFits s (reverse ks) c.binding-item.result)) l.invariant.scope c.in_ok-typed_fits.ensures.fits in
    refused (λ h. not_each (BindingFits s kinds) bs l.binding-index c.binding-item.result c.in_ok-typed_fits.field-0 here told c.if-not-branch.true (each_binding s kinds bs h))

pub bindings_fit-loop-binding-preserved : goal.bindings_fit-loop-binding-preserved
bindings_fit-loop-binding-preserved t c =
    let s = setting_of c.args.program.now in
    let kinds = reverse c.args.kinds.now.items in
    let l = c.loop-binding in
    let here = item_at c.args.bindings.now c.args.bindings.now l.binding-index c.binding-item.result _ refl c.loop-binding-test.true c.binding-item.is in
    let told = subst (λ (ks : List Kind). Decides c.in_ok-typed_fits.field-0 (BindingFits s (reverse ks) c.binding-item.result)) l.invariant.scope c.in_ok-typed_fits.ensures.fits in
    record {
      scope = c.in_ok-typed_fits.ensures.scope ∙ l.invariant.scope;
      fit = before_next (BindingFits s kinds) c.args.bindings.now l.binding-index c.binding-item.result here l.invariant.fit (told.0 c.if-not-branch.false);
    }

pub bindings_fit-returns-clause-fits : goal.bindings_fit-returns-clause-fits
bindings_fit-returns-clause-fits t c =
    let s = setting_of c.args.program.now in
    let kinds = reverse c.args.kinds.now.items in
    let bs = c.args.bindings.now in
    decided (group_fits s kinds bs (before_all (BindingFits s kinds) bs bs c.loop-binding.binding-index refl c.loop-binding-test.false c.loop-binding.invariant.fit))

-- the elements of a vector
pub all_fit-types_fit-requires : goal.all_fit-types_fit-requires
all_fit-types_fit-requires t c =
    (omega (arith, c.decreases, term_smaller c.args.elements.now c.loop-element.element-index c.element-item.result _ c.loop-element-test.true c.element-item.is), tt)

pub all_fit-returns-then-not-branch-clause-fits : goal.all_fit-returns-then-not-branch-clause-fits
all_fit-returns-then-not-branch-clause-fits t c =
    let s = setting_of c.args.program.now in
    let kinds = reverse c.args.kinds.now.items in
    let es = c.args.elements.now in
    let l = c.loop-element in
    let here = item_at c.args.elements.now c.args.elements.now l.element-index c.element-item.result _ refl c.loop-element-test.true c.element-item.is in
    let told = subst (λ (ks : List Kind). Decides c.in_ok-types_fit.field-0 (TypesFit s (reverse ks) c.element-item.result)) l.invariant.scope c.in_ok-types_fit.ensures.fits in
    refused (λ h. not_each (TypesFit s kinds) es l.element-index c.element-item.result c.in_ok-types_fit.field-0 here told c.if-not-branch.true (each_element s kinds es h))

pub all_fit-loop-element-preserved : goal.all_fit-loop-element-preserved
all_fit-loop-element-preserved t c =
    let s = setting_of c.args.program.now in
    let kinds = reverse c.args.kinds.now.items in
    let l = c.loop-element in
    let here = item_at c.args.elements.now c.args.elements.now l.element-index c.element-item.result _ refl c.loop-element-test.true c.element-item.is in
    let told = subst (λ (ks : List Kind). Decides c.in_ok-types_fit.field-0 (TypesFit s (reverse ks) c.element-item.result)) l.invariant.scope c.in_ok-types_fit.ensures.fits in
    record {
      scope = c.in_ok-types_fit.ensures.scope ∙ l.invariant.scope;
      fit = before_next (TypesFit s kinds) c.args.elements.now l.element-index c.element-item.result here l.invariant.fit (told.0 c.if-not-branch.false);
    }

pub all_fit-returns-clause-fits : goal.all_fit-returns-clause-fits
all_fit-returns-clause-fits t c =
    let s = setting_of c.args.program.now in
    let kinds = reverse c.args.kinds.now.items in
    let es = c.args.elements.now in
    decided (elements_fit s kinds es (before_all (TypesFit s kinds) es es c.loop-element.element-index refl c.loop-element-test.false c.loop-element.invariant.fit))

-- the alternatives of a case
pub alts_fit-types_fit-requires : goal.alts_fit-types_fit-requires
alts_fit-types_fit-requires t c =
    (omega (arith, c.decreases, alt_smaller c.args.alts.now c.loop-alt.alt-index c.alt-item.result _ c.loop-alt-test.true c.alt-item.is), tt)

pub alts_fit-returns-then-not-branch-clause-fits : goal.alts_fit-returns-then-not-branch-clause-fits
alts_fit-returns-then-not-branch-clause-fits t c =
    let s = setting_of c.args.program.now in
    let kinds = reverse c.args.kinds.now.items in
    let alts = c.args.alts.now in
    let l = c.loop-alt in
    let here = item_at c.args.alts.now c.args.alts.now l.alt-index c.alt-item.result _ refl c.loop-alt-test.true c.alt-item.is in
    let told = subst (λ (ks : List Kind). Decides c.in_ok-types_fit.field-0 (AltFits s (reverse ks) c.alt-item.result)) l.invariant.scope c.in_ok-types_fit.ensures.fits in
    refused (λ h. not_each (AltFits s kinds) alts l.alt-index c.alt-item.result c.in_ok-types_fit.field-0 here told c.if-not-branch.true (each_alt s kinds alts h))

pub alts_fit-loop-alt-preserved : goal.alts_fit-loop-alt-preserved
alts_fit-loop-alt-preserved t c =
    let s = setting_of c.args.program.now in
    let kinds = reverse c.args.kinds.now.items in
    let l = c.loop-alt in
    let here = item_at c.args.alts.now c.args.alts.now l.alt-index c.alt-item.result _ refl c.loop-alt-test.true c.alt-item.is in
    let told = subst (λ (ks : List Kind). Decides c.in_ok-types_fit.field-0 (AltFits s (reverse ks) c.alt-item.result)) l.invariant.scope c.in_ok-types_fit.ensures.fits in
    record {
      scope = c.in_ok-types_fit.ensures.scope ∙ l.invariant.scope;
      fit = before_next (AltFits s kinds) c.args.alts.now l.alt-index c.alt-item.result here l.invariant.fit (told.0 c.if-not-branch.false);
    }

pub alts_fit-returns-clause-fits : goal.alts_fit-returns-clause-fits
alts_fit-returns-clause-fits t c =
    let s = setting_of c.args.program.now in
    let kinds = reverse c.args.kinds.now.items in
    let alts = c.args.alts.now in
    decided (alts_fit s kinds alts (before_all (AltFits s kinds) alts alts c.loop-alt.alt-index refl c.loop-alt-test.false c.loop-alt.invariant.fit))
