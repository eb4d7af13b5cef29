use Rattle.std.proofs.Common.{◌≡◌, ◌↔◌, IsTrue, ◌+◌, ◌∷◌, ◌++◌, [], length, take, refl, sym, ap, ◌∙◌, subst, arith}
use Rattle.std.specs.Prelude.{Option, None, IfOk, IfSome, MatchOption, reverse}
use Rattle.std.proofs.lemmas.Bool.{false≢true}
use Rattle.chw_types.specs.SameTypes.{SameTypes}
use Rattle.chw_types.specs.TypeTree.{TypeTree}
use Rattle.chw_terms.specs.declared.term.Binding.{Binding}
use Rattle.chw_terms.specs.PartsFall.{arg_smaller, term_smaller, binding_smaller, alt_smaller}
use Rattle.chw_terms.specs.TermFalls.{applied_size}
use Rattle.chw_terms.specs.TermSize.{tree_size, terms_size, group_size, alts_size, args_size}
use Rattle.chw_terms.specs.TermTree.{TermTree, app, ty_app, lam, ty_lam, letrec, vec_lit, case_of}
use Rattle.chw_terms.specs.TermView.{tree_of, applied_to, applied, terms_of, group_of, alts_of}
use Rattle.chw_typing.specs.Alternatives.{NoneHidden}
use Rattle.chw_typing.specs.HeadTypes.{IsLookedAt}
use Rattle.chw_typing.specs.Scopes.{setting_in}
use Rattle.chw_typing.specs.Typing.{HasType, HasTypeUpTo}
use Rattle.term_types.specs.Answers.{HasNoType, IsTyped, IsAnswer}
use Rattle.term_types.specs.Binding.{BindsKinded, BindsNothing, is_looked_at}
use Rattle.term_types.specs.Cases.{Gives, GivesNothing, IsJoined}
use Rattle.term_types.specs.Groups.{HaveTheirTypes, NotAllOfTerms, IsGroup}
use Rattle.term_spines.specs.Spines.{spine_found, AtTerm, AtType, IsNumbered}
use Rattle.term_types.specs.AtArguments.{IsSpineOf}
use Rattle.term_frames.specs.VarsView.{bound_types}
use Rattle.term_frames.specs.declared.fields.Bound.{Bound}
use Rattle.term_types.specs.declared.groups.Group.{Group}
use Rattle.term_spines.specs.declared.spines.Spine.{Spine}
use Rattle.term_types.proofs.Applied.{applied_none, app_argument_untyped}
use Rattle.term_types.proofs.Bound.{looked_found, looked_none}
use Rattle.term_types.proofs.Cased.{case_on, case_looked, case_hidden, case_alt, gives_told, joined_next, joined_none, nothing_joined, together_told}
use Rattle.seen_types.proofs.EachItem.{each_next, each_all, each_at}
use Rattle.term_types.proofs.HeadsApplied.{spine_next, spine_none, spine_all}
use Rattle.term_types.proofs.Lambdas.{lam_ready, lam_typed, lam_parameter, lam_body, lam_kinds, ty_lam_typed, ty_lam_body}
use Rattle.term_types.proofs.Lets.{let_typed, let_group, let_body, let_kind, let_types, vec_element, vec_elements, vec_typed}
use Rattle.term_spines.proofs.Waiting.{numbered_start, unnumbered}
use Rattle.seen_types.proofs.Matched.{of_some, of_none, ok_more, not_true}
use Rattle.term_types.proofs.Ready.{inner_kinds, ready_more, ready_under}
use Rattle.term_types.proofs.Scoped.{lam_set, set_under, group_inside, fields_inside}
use Rattle.term_types.proofs.Told.{up_to_told, up_to_none}
use Rattle.term_frames.proofs.VarsFound.{types_of}
use Rattle.term_types.proofs.Walked.{answer_some, answer_none, answer_is_none, app_told, ty_app_told}
use Rattle.term_types.proofs.walk.+infer.Goals as goal

-- a head at arguments
pub infer-infer_head-requires : goal.infer-infer_head-requires
infer-infer_head-requires t c =
    let h = tree_of c.term.inside.head in
    let whole : tree_size (applied h c.term.inside.args.items) ≡ tree_size c.args.term.now = ap tree_size c.term.view_is in
    (omega (arith, c.decreases, whole, applied_size h c.term.inside.args.items), (c.requires.ready, c.requires.table))

pub infer-returns-in_default : goal.infer-returns-in_default
infer-returns-in_default t c =
    let s = setting_in c.args.scene.now in
    let kinds = reverse c.args.kinds.now in
    let vars = c.args.vars.now.vars in
    let h = tree_of c.term.inside.head in
    subst (HasNoType s kinds vars) c.term.view_is (applied_none h c.term.inside.args.items (answer_none s kinds vars h c.in_ok-head.field-0 c.in_default.not-Some c.in_ok-head.ensures))

pub infer-infer_args-requires : goal.infer-infer_args-requires
infer-infer_args-requires t c =
    let h = tree_of c.term.inside.head in
    let whole : tree_size (applied h c.term.inside.args.items) ≡ tree_size c.args.term.now = ap tree_size c.term.view_is in
    let all : args_size c.deref.result.now ≡ args_size c.term.inside.args.items = ap args_size c.deref.ensures.value in
    let typed = answer_some (setting_in c.args.scene.now) (reverse c.args.kinds.now) c.args.vars.now.vars h c.in_ok-head.field-0 c.in-Some.head c.in-Some.is c.in_ok-head.ensures in
    let found = c.number_of_head.ensures c.args.scene.now c.requires.table (reverse c.args.kinds.now) c.args.vars.now.vars c.in-Some.head.ty typed.0 in
    let spine = c.started-spine.result in
    let started = c.started-spine.ensures in
    let number = numbered_start c.args.signature.now.numbering.types spine c.in-Some.head c.number_of_head.result started.body started.number found in
    (omega (arith, c.decreases, whole, all, applied_size h c.term.inside.args.items), (c.requires.ready, (c.requires.table, number)))

pub infer-returns : goal.infer-returns
infer-returns t c =
    let s = setting_in c.args.scene.now in
    let kinds = reverse c.args.kinds.now in
    let vars = c.args.vars.now.vars in
    let h = tree_of c.term.inside.head in
    let typed = answer_some s kinds vars h c.in_ok-head.field-0 c.in-Some.head c.in-Some.is c.in_ok-head.ensures in
    let is = ap (applied h) c.deref.ensures.value ∙ c.term.view_is in
    let started = subst (IsTyped s kinds vars h) (sym c.started-spine.ensures.is) typed in
    ok_more c.infer_args.result (λ r. (e : TermTree) → IsTyped s kinds vars e (spine_found c.started-spine.result) → IsAnswer s kinds vars (applied e c.deref.result.now) r) (IsAnswer s kinds vars c.args.term.now)
    (λ r g. subst (λ e. IsAnswer s kinds vars e r) is (g h started)) c.infer_args.ensures

pub infer_args-infer_applied-requires : goal.infer_args-infer_applied-requires
infer_args-infer_applied-requires t c =
    (omega (arith, c.decreases, arg_smaller c.args.args.now c.loop-arg.arg-index c.arg-item.result _ c.loop-arg-test.true c.arg-item.is), (c.requires.ready, (c.requires.table, c.loop-arg.invariant.1)))

pub infer_args-loop-arg-init : goal.infer_args-loop-arg-init
infer_args-loop-arg-init t c = (λ e d. d, c.requires.number)

pub infer_args-loop-arg-preserved : goal.infer_args-loop-arg-preserved
infer_args-loop-arg-preserved t c =
    let s = setting_in c.args.scene.now in
    let kinds = reverse c.args.kinds.now in
    let vars = c.args.vars.now.vars in
    let items = c.args.args.now in
    let ts = c.args.signature.now.numbering.types in
    let so_far = λ (e : TermTree). applied e (take c.loop-arg.arg-index items) in (
      λ e d. spine_next e items c.loop-arg.arg-index c.arg-item.result _ (spine_found c.in-Some.next) c.loop-arg-test.true c.arg-item.is
          (subst (IsSpineOf s kinds vars (applied_to (so_far e) c.arg-item.result)) c.in-Some.is (c.in_ok-next.ensures.is (so_far e) (c.loop-arg.invariant.0 e d))),
      subst (λ (r : Option Spine). IfSome r (λ p. IsNumbered ts p)) c.in-Some.is c.in_ok-next.ensures.number,
    )

pub infer_args-returns-in-None : goal.infer_args-returns-in-None
infer_args-returns-in-None t c e d =
    let s = setting_in c.args.scene.now in
    let kinds = reverse c.args.kinds.now in
    let vars = c.args.vars.now.vars in
    let items = c.args.args.now in
    let so_far = applied e (take c.loop-arg.arg-index items) in
    let none = subst (IsSpineOf s kinds vars (applied_to so_far c.arg-item.result)) c.in-None.is (c.in_ok-next.ensures.is so_far (c.loop-arg.invariant.0 e d)) in
    spine_none e items c.loop-arg.arg-index c.arg-item.result _ c.loop-arg-test.true c.arg-item.is none

pub infer_args-returns : goal.infer_args-returns
infer_args-returns t c e d =
    let s = setting_in c.args.scene.now in
    let kinds = reverse c.args.kinds.now in
    let vars = c.args.vars.now.vars in
    subst (IsTyped s kinds vars (applied e c.args.args.now)) (sym c.in_ok-finished.ensures)
    (spine_all e c.args.args.now c.loop-arg.arg-index (spine_found c.loop-arg.spine) (omega (arith, c.loop-arg-test.false)) (c.loop-arg.invariant.0 e d))

-- an argument
pub infer_applied-infer_at_term-requires : goal.infer_applied-infer_at_term-requires
infer_applied-infer_at_term-requires t c =
    let size : args_size (c.args.arg.now ∷ []) ≡ tree_size c.in-OfTerm.e + 2 = ap (λ a. args_size (a ∷ [])) c.in-OfTerm.is ∙ omega arith in
    (omega (arith, c.decreases, size), (c.requires.ready, (c.requires.table, c.requires.number)))

pub infer_applied-returns-in-OfTerm-clause-is : goal.infer_applied-returns-in-OfTerm-clause-is
infer_applied-returns-in-OfTerm-clause-is t c =
    let s = setting_in c.args.scene.now in
    let kinds = reverse c.args.kinds.now in
    let vars = c.args.vars.now.vars in
    subst (λ a. IfOk c.infer_at_term.result (λ r. (e : TermTree) → IsTyped s kinds vars e (spine_found c.args.spine) → IsSpineOf s kinds vars (applied_to e a) r)) (sym c.in-OfTerm.is) c.infer_at_term.ensures.is

pub infer_applied-returns-in-OfType-clause-is : goal.infer_applied-returns-in-OfType-clause-is
infer_applied-returns-in-OfType-clause-is t c =
    let s = setting_in c.args.scene.now in
    let kinds = reverse c.args.kinds.now in
    let vars = c.args.vars.now.vars in
    let fun = spine_found c.args.spine in
    let t = c.in-OfType.t in
    subst (λ a. IfOk c.at_type.result (λ r. (e : TermTree) → IsTyped s kinds vars e fun → IsSpineOf s kinds vars (applied_to e a) r)) (sym c.in-OfType.is)
    (ok_more c.at_type.result (AtType s kinds fun t) (λ r. (e : TermTree) → IsTyped s kinds vars e fun → IsSpineOf s kinds vars (ty_app e t) r)
    (λ r at e d. ty_app_told s kinds vars e t fun r c.requires.ready.0 at d) c.at_type.ensures.is)

pub infer_applied-returns-in-OfType-clause-number : goal.infer_applied-returns-in-OfType-clause-number
infer_applied-returns-in-OfType-clause-number t c =
    let ts = c.args.signature.now.numbering.types in
    ok_more c.at_type.result (λ r. IfSome r (λ p. p.number ≡ None)) (λ r. IfSome r (λ p. IsNumbered ts p)) (λ r h. unnumbered ts r h) c.at_type.ensures.number

pub infer_at_term-infer-requires : goal.infer_at_term-infer-requires
infer_at_term-infer-requires t c = (omega (arith, c.decreases), (c.requires.ready, c.requires.table))

pub infer_at_term-returns-in_default-clause-is : goal.infer_at_term-returns-in_default-clause-is
infer_at_term-returns-in_default-clause-is t c e d =
    let s = setting_in c.args.scene.now in
    let kinds = reverse c.args.kinds.now in
    app_argument_untyped (answer_none s kinds c.args.vars.now.vars c.args.term.now c.in_ok-found.field-0 c.in_default.not-Some c.in_ok-found.ensures)

pub infer_at_term-at_term-requires : goal.infer_at_term-at_term-requires
infer_at_term-at_term-requires t c =
    let s = setting_in c.args.scene.now in
    let kinds = reverse c.args.kinds.now in
    let vars = c.args.vars.now.vars in
    let found = c.in-Some.found in
    let typed = answer_some s kinds vars c.args.term.now c.in_ok-found.field-0 found c.in-Some.is c.in_ok-found.ensures in
    record { spine = c.requires.number; arg = c.number_of_term-number.ensures c.args.scene.now c.requires.table kinds vars found.ty typed.0 }

pub infer_at_term-returns-clause-is : goal.infer_at_term-returns-clause-is
infer_at_term-returns-clause-is t c =
    let s = setting_in c.args.scene.now in
    let kinds = reverse c.args.kinds.now in
    let vars = c.args.vars.now.vars in
    let fun = spine_found c.args.spine in
    let found = c.in-Some.found in
    let typed = answer_some s kinds vars c.args.term.now c.in_ok-found.field-0 found c.in-Some.is c.in_ok-found.ensures in
    ok_more c.at_term.result (AtTerm fun found.ty) (λ r. (e : TermTree) → IsTyped s kinds vars e fun → IsSpineOf s kinds vars (app e c.args.term.now) r)
    (λ r at e d. app_told s kinds vars e c.args.term.now fun found r c.requires.ready.0 typed at d) c.at_term.ensures.is

-- the forms of heads
pub infer_head-returns-in-Var : goal.infer_head-returns-in-Var
infer_head-returns-in-Var t c =
    subst (λ h. IfOk c.variable.result (IsAnswer (setting_in c.args.scene.now) (reverse c.args.kinds.now) c.args.vars.now.vars (tree_of h))) (sym c.in-Var.is) c.variable.ensures

pub infer_head-returns-in-Global : goal.infer_head-returns-in-Global
infer_head-returns-in-Global t c =
    subst (λ h. IsAnswer (setting_in c.args.scene.now) (reverse c.args.kinds.now) c.args.vars.now.vars (tree_of h) c.definition.result) (sym c.in-Global.is) c.definition.ensures

pub infer_head-returns-in-Made : goal.infer_head-returns-in-Made
infer_head-returns-in-Made t c =
    subst (λ h. IsAnswer (setting_in c.args.scene.now) (reverse c.args.kinds.now) c.args.vars.now.vars (tree_of h) c.made_definition.result) (sym c.in-Made.is) c.made_definition.ensures

pub infer_head-infer_lam-requires : goal.infer_head-infer_lam-requires
infer_head-infer_lam-requires t c =
    let whole : tree_size (tree_of c.args.head.now) ≡ tree_size c.in-Lam.body.value + 2 = ap (λ h. tree_size (tree_of h)) c.in-Lam.is in
    let body : tree_size c.deref.result.now ≡ tree_size c.in-Lam.body.value = ap tree_size c.deref.ensures in
    (omega (arith, c.decreases, whole, body), (c.requires.ready, c.requires.table))

pub infer_head-returns-in-Lam : goal.infer_head-returns-in-Lam
infer_head-returns-in-Lam t c =
    let s = setting_in c.args.scene.now in
    let kinds = reverse c.args.kinds.now in
    let vars = c.args.vars.now.vars in
    subst (λ h. IfOk c.infer_lam.result (IsAnswer s kinds vars (tree_of h))) (sym c.in-Lam.is)
    (subst (λ e. IfOk c.infer_lam.result (IsAnswer s kinds vars (lam c.in-Lam.ty e))) c.deref.ensures c.infer_lam.ensures)

pub infer_head-infer_ty_lam-requires : goal.infer_head-infer_ty_lam-requires
infer_head-infer_ty_lam-requires t c =
    let whole : tree_size (tree_of c.args.head.now) ≡ tree_size c.in-TyLam.body.value + 2 = ap (λ h. tree_size (tree_of h)) c.in-TyLam.is in
    let body : tree_size c.deref-in-TyLam.result.now ≡ tree_size c.in-TyLam.body.value = ap tree_size c.deref-in-TyLam.ensures in
    (omega (arith, c.decreases, whole, body), (c.requires.ready, c.requires.table))

pub infer_head-returns-in-TyLam : goal.infer_head-returns-in-TyLam
infer_head-returns-in-TyLam t c =
    let s = setting_in c.args.scene.now in
    let kinds = reverse c.args.kinds.now in
    let vars = c.args.vars.now.vars in
    subst (λ h. IfOk c.infer_ty_lam.result (IsAnswer s kinds vars (tree_of h))) (sym c.in-TyLam.is)
    (subst (λ e. IfOk c.infer_ty_lam.result (IsAnswer s kinds vars (ty_lam c.in-TyLam.kind e))) c.deref-in-TyLam.ensures c.infer_ty_lam.ensures)

pub infer_head-infer_letrec-requires : goal.infer_head-infer_letrec-requires
infer_head-infer_letrec-requires t c =
    let bs = c.in-LetRec.bindings.items in
    let whole : tree_size (tree_of c.args.head.now) ≡ group_size (group_of bs) + tree_size c.in-LetRec.body.value + 2 = ap (λ h. tree_size (tree_of h)) c.in-LetRec.is in
    let group : group_size (group_of c.deref-in-LetRec.result.now) ≡ group_size (group_of bs) = ap (λ xs. group_size (group_of xs)) c.deref-in-LetRec.ensures.value in
    let body : tree_size c.deref-in-LetRec-2.result.now ≡ tree_size c.in-LetRec.body.value = ap tree_size c.deref-in-LetRec-2.ensures in
    (omega (arith, c.decreases, whole, group, body), (c.requires.ready, c.requires.table))

pub infer_head-returns-in-LetRec : goal.infer_head-returns-in-LetRec
infer_head-returns-in-LetRec t c =
    let s = setting_in c.args.scene.now in
    let kinds = reverse c.args.kinds.now in
    let vars = c.args.vars.now.vars in
    subst (λ h. IfOk c.infer_letrec.result (IsAnswer s kinds vars (tree_of h))) (sym c.in-LetRec.is)
    (subst (λ e. IfOk c.infer_letrec.result (IsAnswer s kinds vars (letrec (group_of c.in-LetRec.bindings.items) e))) c.deref-in-LetRec-2.ensures
    (subst (λ bs. IfOk c.infer_letrec.result (IsAnswer s kinds vars (letrec (group_of bs) c.deref-in-LetRec-2.result.now))) c.deref-in-LetRec.ensures.value c.infer_letrec.ensures))

pub infer_head-returns-in-Con : goal.infer_head-returns-in-Con
infer_head-returns-in-Con t c =
    subst (λ h. IfOk c.of_constructor.result (IsAnswer (setting_in c.args.scene.now) (reverse c.args.kinds.now) c.args.vars.now.vars (tree_of h))) (sym c.in-Con.is) c.of_constructor.ensures

pub infer_head-returns-in-PrimOf : goal.infer_head-returns-in-PrimOf
infer_head-returns-in-PrimOf t c =
    subst (λ h. IsAnswer (setting_in c.args.scene.now) (reverse c.args.kinds.now) c.args.vars.now.vars (tree_of h) c.primitive.result) (sym c.in-PrimOf.is) c.primitive.ensures

pub infer_head-returns-in-Lit : goal.infer_head-returns-in-Lit
infer_head-returns-in-Lit t c =
    subst (λ h. IfOk c.literal.result (IsAnswer (setting_in c.args.scene.now) (reverse c.args.kinds.now) c.args.vars.now.vars (tree_of h))) (sym c.in-Lit.is) c.literal.ensures

pub infer_head-infer_vector-requires : goal.infer_head-infer_vector-requires
infer_head-infer_vector-requires t c =
    let es = c.in-VecLit.elements.items in
    let whole : tree_size (tree_of c.args.head.now) ≡ terms_size (terms_of es) + 2 = ap (λ h. tree_size (tree_of h)) c.in-VecLit.is in
    let parts : terms_size (terms_of c.deref-in-VecLit.result.now) ≡ terms_size (terms_of es) = ap (λ xs. terms_size (terms_of xs)) c.deref-in-VecLit.ensures.value in
    (omega (arith, c.decreases, whole, parts), (c.requires.ready, c.requires.table))

pub infer_head-returns-in-VecLit : goal.infer_head-returns-in-VecLit
infer_head-returns-in-VecLit t c =
    let s = setting_in c.args.scene.now in
    let kinds = reverse c.args.kinds.now in
    let vars = c.args.vars.now.vars in
    subst (λ h. IfOk c.infer_vector.result (IsAnswer s kinds vars (tree_of h))) (sym c.in-VecLit.is)
    (subst (λ es. IfOk c.infer_vector.result (IsAnswer s kinds vars (vec_lit c.in-VecLit.ty (terms_of es)))) c.deref-in-VecLit.ensures.value c.infer_vector.ensures)

pub infer_head-infer_case-requires : goal.infer_head-infer_case-requires
infer_head-infer_case-requires t c =
    let alts = c.in-Case.alts.items in
    let whole : tree_size (tree_of c.args.head.now) ≡ tree_size c.in-Case.on.value + alts_size (alts_of alts) + 2 = ap (λ h. tree_size (tree_of h)) c.in-Case.is in
    let on : tree_size c.deref-in-Case.result.now ≡ tree_size c.in-Case.on.value = ap tree_size c.deref-in-Case.ensures in
    let parts : alts_size (alts_of c.deref-in-Case-2.result.now) ≡ alts_size (alts_of alts) = ap (λ xs. alts_size (alts_of xs)) c.deref-in-Case-2.ensures.value in
    (omega (arith, c.decreases, whole, on, parts), (c.requires.ready, c.requires.table))

pub infer_head-returns-in-Case : goal.infer_head-returns-in-Case
infer_head-returns-in-Case t c =
    let s = setting_in c.args.scene.now in
    let kinds = reverse c.args.kinds.now in
    let vars = c.args.vars.now.vars in
    subst (λ h. IfOk c.infer_case.result (IsAnswer s kinds vars (tree_of h))) (sym c.in-Case.is)
    (subst (λ e. IfOk c.infer_case.result (IsAnswer s kinds vars (case_of e (alts_of c.in-Case.alts.items)))) c.deref-in-Case.ensures
    (subst (λ alts. IfOk c.infer_case.result (IsAnswer s kinds vars (case_of c.deref-in-Case.result.now (alts_of alts)))) c.deref-in-Case-2.ensures.value c.infer_case.ensures))

-- lambdas
pub infer_lam-infer-requires : goal.infer_lam-infer-requires
infer_lam-infer-requires t c =
    let set = lam_set (setting_in c.args.scene.now) (reverse c.args.kinds.now) c.args.vars.now c.with_one-inner.result c.args.ty.now c.in-Some.from c.with_one-inner.ensures.types c.with_one-inner.ensures.kinds c.requires.ready c.in-Some.ensures in
    (omega (arith, c.decreases), (set, c.requires.table))

pub infer_lam-returns-in_default : goal.infer_lam-returns-in_default
infer_lam-returns-in_default t c = lam_parameter c.args.ty.now c.in_default.ensures

pub infer_lam-returns-in_default-2 : goal.infer_lam-returns-in_default-2
infer_lam-returns-in_default-2 t c =
    let s = setting_in c.args.scene.now in
    let kinds = reverse c.args.kinds.now in
    let body = c.args.body.now in
    lam_body c.args.ty.now (subst (λ vars. HasNoType s kinds vars body) c.with_one-inner.ensures.types
    (answer_none s kinds c.with_one-inner.result.vars body c.in_ok-to.field-0 c.in_default-2.not-Some c.in_ok-to.ensures))

pub infer_lam-returns-then-not-has_functions : goal.infer_lam-returns-then-not-has_functions
infer_lam-returns-then-not-has_functions t c =
    let s = setting_in c.args.scene.now in
    let kinds = reverse c.args.kinds.now in
    let vars = c.args.vars.now.vars in
    let body = c.args.body.now in
    let a = c.args.ty.now in
    let typed = subst (λ vars. IsTyped s kinds vars body c.in-Some-2.to) c.with_one-inner.ensures.types (answer_some s kinds c.with_one-inner.result.vars body c.in_ok-to.field-0 c.in-Some-2.to c.in-Some-2.is c.in_ok-to.ensures) in
    lam_kinds a c.in-Some.from c.in-Some-2.to (lam_ready s kinds vars a c.in-Some.from c.requires.ready.0 c.in-Some.ensures) c.in-Some.ensures.0 typed (sym c.has_functions.ensures ∙ c.if-not-has_functions.true)

pub infer_lam-returns : goal.infer_lam-returns
infer_lam-returns t c =
    let s = setting_in c.args.scene.now in
    let kinds = reverse c.args.kinds.now in
    let body = c.args.body.now in
    let a = c.args.ty.now in
    let typed = subst (λ vars. IsTyped s kinds vars body c.in-Some-2.to) c.with_one-inner.ensures.types (answer_some s kinds c.with_one-inner.result.vars body c.in_ok-to.field-0 c.in-Some-2.to c.in-Some-2.is c.in_ok-to.ensures) in
    lam_typed a c.in-Some.from c.in-Some-2.to _ c.in-Some.ensures.0 typed (sym c.has_functions.ensures ∙ c.if-not-has_functions.false) c.in_ok-ty.ensures refl

pub infer_ty_lam-infer-requires : goal.infer_ty_lam-infer-requires
infer_ty_lam-infer-requires t c =
    let s = setting_in c.args.scene.now in
    let kinds = c.args.kinds.now in
    let more = inner_kinds kinds c.deref.result.now c.args.kind (c.deref.ensures.value ∙ c.in_ok-push.ensures.items ∙ ap (λ ks. ks ++ c.args.kind ∷ []) c.in_ok-inner.ensures.items) in
    (omega (arith, c.decreases), (set_under s (reverse kinds) (reverse c.deref.result.now) c.args.kind c.args.vars.now c.under_type-vars.result more c.under_type-vars.ensures.types c.under_type-vars.ensures.kinds c.requires.ready, c.requires.table))

pub infer_ty_lam-returns-in_default : goal.infer_ty_lam-returns-in_default
infer_ty_lam-returns-in_default t c =
    let s = setting_in c.args.scene.now in
    let kinds = c.args.kinds.now in
    let body = c.args.body.now in
    let more = inner_kinds kinds c.deref.result.now c.args.kind (c.deref.ensures.value ∙ c.in_ok-push.ensures.items ∙ ap (λ ks. ks ++ c.args.kind ∷ []) c.in_ok-inner.ensures.items) in
    ty_lam_body c.args.kind
    (λ u d. answer_none s (reverse c.deref.result.now) c.under_type-vars.result.vars body c.in_ok-of.field-0 c.in_default.not-Some c.in_ok-of.ensures u
    (subst (λ ks. HasType s ks c.under_type-vars.result.vars body u) (sym more) (subst (λ vars. HasType s (c.args.kind ∷ reverse kinds) vars body u) (sym c.under_type-vars.ensures.types) d)))

pub infer_ty_lam-returns : goal.infer_ty_lam-returns
infer_ty_lam-returns t c =
    let s = setting_in c.args.scene.now in
    let kinds = c.args.kinds.now in
    let body = c.args.body.now in
    let found = c.in-Some.of in
    let more = inner_kinds kinds c.deref.result.now c.args.kind (c.deref.ensures.value ∙ c.in_ok-push.ensures.items ∙ ap (λ ks. ks ++ c.args.kind ∷ []) c.in_ok-inner.ensures.items) in
    let typed = answer_some s (reverse c.deref.result.now) c.under_type-vars.result.vars body c.in_ok-of.field-0 found c.in-Some.is c.in_ok-of.ensures in
    ty_lam_typed c.args.kind found _ (ready_under s (reverse kinds) c.args.vars.now.vars c.args.kind c.requires.ready.0)
    (subst (λ vars. IsTyped s (c.args.kind ∷ reverse kinds) vars body found) c.under_type-vars.ensures.types (subst (λ ks. IsTyped s ks c.under_type-vars.result.vars body found) more typed)) c.in_ok-ty.ensures refl

-- letrecs
pub infer_letrec-infer-requires : goal.infer_letrec-infer-requires
infer_letrec-infer-requires t c =
    let s = setting_in c.args.scene.now in
    let kinds = reverse c.args.kinds.now in
    let outer = c.args.vars.now in
    let vars = outer.vars in
    let bs = c.args.bindings.now in
    let group = c.in-Some.group in
    let g = of_some (NotAllOfTerms s kinds bs) (λ (g : Group). IsGroup s kinds bs g) c.in_ok-group.field-0 group c.in-Some.is c.in_ok-group.ensures in
    let inside = group_inside s kinds bs group c.as_slice.result.now outer c.with_group-inner.result c.requires.ready g c.as_slice.ensures.value c.with_group-inner.ensures.types c.with_group-inner.ensures.kinds in
    (omega (arith, c.decreases), (inside.set, c.requires.table))

pub infer_letrec-returns-in_default : goal.infer_letrec-returns-in_default
infer_letrec-returns-in_default t c =
    let s = setting_in c.args.scene.now in
    let kinds = reverse c.args.kinds.now in
    let bs = c.args.bindings.now in
    let_group bs (of_none (NotAllOfTerms s kinds bs) (λ (g : Group). IsGroup s kinds bs g) c.in_ok-group.field-0 c.in_default.not-Some c.in_ok-group.ensures)

pub infer_letrec-returns-in_default-2 : goal.infer_letrec-returns-in_default-2
infer_letrec-returns-in_default-2 t c =
    let s = setting_in c.args.scene.now in
    let kinds = reverse c.args.kinds.now in
    let outer = c.args.vars.now in
    let vars = outer.vars in
    let bs = c.args.bindings.now in
    let group = c.in-Some.group in
    let g = of_some (NotAllOfTerms s kinds bs) (λ (g : Group). IsGroup s kinds bs g) c.in_ok-group.field-0 group c.in-Some.is c.in_ok-group.ensures in
    let inside = group_inside s kinds bs group c.as_slice.result.now outer c.with_group-inner.result c.requires.ready g c.as_slice.ensures.value c.with_group-inner.ensures.types c.with_group-inner.ensures.kinds in
    let body = c.args.body.now in
    let_body bs (subst (λ vars. HasNoType s kinds vars body) inside.vars
    (answer_none s kinds c.with_group-inner.result.vars body c.in_ok-found.field-0 c.in_default-2.not-Some c.in_ok-found.ensures))

pub infer_letrec-returns-then-not-has_functions : goal.infer_letrec-returns-then-not-has_functions
infer_letrec-returns-then-not-has_functions t c =
    let s = setting_in c.args.scene.now in
    let kinds = reverse c.args.kinds.now in
    let outer = c.args.vars.now in
    let vars = outer.vars in
    let bs = c.args.bindings.now in
    let group = c.in-Some.group in
    let g = of_some (NotAllOfTerms s kinds bs) (λ (g : Group). IsGroup s kinds bs g) c.in_ok-group.field-0 group c.in-Some.is c.in_ok-group.ensures in
    let inside = group_inside s kinds bs group c.as_slice.result.now outer c.with_group-inner.result c.requires.ready g c.as_slice.ensures.value c.with_group-inner.ensures.types c.with_group-inner.ensures.kinds in
    let body = c.args.body.now in
    let found = c.in-Some-2.found in
    let typed = subst (λ vars. IsTyped s kinds vars body found) inside.vars (answer_some s kinds c.with_group-inner.result.vars body c.in_ok-found.field-0 found c.in-Some-2.is c.in_ok-found.ensures) in
    let_kind bs group.kind found (ready_more s kinds vars (types_of bs) c.requires.ready.0 g.kind.typed) g.kind typed (sym c.has_functions.ensures ∙ c.if-not-has_functions.true)

pub infer_letrec-have_their_types-requires : goal.infer_letrec-have_their_types-requires
infer_letrec-have_their_types-requires t c =
    let s = setting_in c.args.scene.now in
    let kinds = reverse c.args.kinds.now in
    let outer = c.args.vars.now in
    let vars = outer.vars in
    let bs = c.args.bindings.now in
    let group = c.in-Some.group in
    let g = of_some (NotAllOfTerms s kinds bs) (λ (g : Group). IsGroup s kinds bs g) c.in_ok-group.field-0 group c.in-Some.is c.in_ok-group.ensures in
    let inside = group_inside s kinds bs group c.as_slice.result.now outer c.with_group-inner.result c.requires.ready g c.as_slice.ensures.value c.with_group-inner.ensures.types c.with_group-inner.ensures.kinds in
    (omega (arith, c.decreases), (inside.set, c.requires.table))

pub infer_letrec-returns-then-not-branch : goal.infer_letrec-returns-then-not-branch
infer_letrec-returns-then-not-branch t c =
    let s = setting_in c.args.scene.now in
    let kinds = reverse c.args.kinds.now in
    let outer = c.args.vars.now in
    let vars = outer.vars in
    let bs = c.args.bindings.now in
    let group = c.in-Some.group in
    let g = of_some (NotAllOfTerms s kinds bs) (λ (g : Group). IsGroup s kinds bs g) c.in_ok-group.field-0 group c.in-Some.is c.in_ok-group.ensures in
    let inside = group_inside s kinds bs group c.as_slice.result.now outer c.with_group-inner.result c.requires.ready g c.as_slice.ensures.value c.with_group-inner.ensures.types c.with_group-inner.ensures.kinds in
    let_types bs (λ h. not_true _ c.if-not-branch.true (c.in_ok-have_their_types.ensures.1 (subst (λ vars. HaveTheirTypes s kinds vars bs) (sym inside.vars) h)))

pub infer_letrec-returns : goal.infer_letrec-returns
infer_letrec-returns t c =
    let s = setting_in c.args.scene.now in
    let kinds = reverse c.args.kinds.now in
    let outer = c.args.vars.now in
    let vars = outer.vars in
    let bs = c.args.bindings.now in
    let group = c.in-Some.group in
    let g = of_some (NotAllOfTerms s kinds bs) (λ (g : Group). IsGroup s kinds bs g) c.in_ok-group.field-0 group c.in-Some.is c.in_ok-group.ensures in
    let inside = group_inside s kinds bs group c.as_slice.result.now outer c.with_group-inner.result c.requires.ready g c.as_slice.ensures.value c.with_group-inner.ensures.types c.with_group-inner.ensures.kinds in
    let body = c.args.body.now in
    let found = c.in-Some-2.found in
    let typed = subst (λ vars. IsTyped s kinds vars body found) inside.vars (answer_some s kinds c.with_group-inner.result.vars body c.in_ok-found.field-0 found c.in-Some-2.is c.in_ok-found.ensures) in
    let have = subst (λ vars. HaveTheirTypes s kinds vars bs) inside.vars (c.in_ok-have_their_types.ensures.0 c.if-not-branch.false) in
    let_typed bs group.kind found g.kind typed (sym c.has_functions.ensures ∙ c.if-not-has_functions.false) have

pub have_their_types-has_type-requires : goal.have_their_types-has_type-requires
have_their_types-has_type-requires t c =
    (omega (arith, c.decreases, binding_smaller c.args.bindings.now c.loop-b.b-index c.b-item.result _ c.loop-b-test.true c.b-item.is), (c.requires.ready, c.requires.table))

pub have_their_types-returns-then-not-branch : goal.have_their_types-returns-then-not-branch
have_their_types-returns-then-not-branch t c =
    let P = λ (b : Binding). HasTypeUpTo (setting_in c.args.scene.now) (reverse c.args.kinds.now) c.args.vars.now.vars b.body b.ty in (
      λ y. absurd (false≢true y),
      λ h. absurd (not_true _ c.if-not-branch.true (c.in_ok-has_type.ensures.1 (each_at P c.args.bindings.now c.loop-b.b-index c.b-item.result _ c.loop-b-test.true c.b-item.is h))),
    )

pub have_their_types-loop-b-preserved : goal.have_their_types-loop-b-preserved
have_their_types-loop-b-preserved t c =
    let P = λ (b : Binding). HasTypeUpTo (setting_in c.args.scene.now) (reverse c.args.kinds.now) c.args.vars.now.vars b.body b.ty in
    each_next P c.args.bindings.now c.loop-b.b-index c.b-item.result _ c.loop-b-test.true c.b-item.is c.loop-b.invariant (c.in_ok-has_type.ensures.0 c.if-not-branch.false)

pub have_their_types-returns : goal.have_their_types-returns
have_their_types-returns t c =
    let P = λ (b : Binding). HasTypeUpTo (setting_in c.args.scene.now) (reverse c.args.kinds.now) c.args.vars.now.vars b.body b.ty in
    (λ y. each_all P c.args.bindings.now c.loop-b.b-index (omega (arith, c.loop-b-test.false)) c.loop-b.invariant, λ h. refl)

pub has_type-infer-requires : goal.has_type-infer-requires
has_type-infer-requires t c = (omega (arith, c.decreases), (c.requires.ready, c.requires.table))

pub has_type-returns-in_ok-same-in-Some : goal.has_type-returns-in_ok-same-in-Some
has_type-returns-in_ok-same-in-Some t c =
    let s = setting_in c.args.scene.now in
    let kinds = reverse c.args.kinds.now in
    let vars = c.args.vars.now.vars in
    up_to_told c.args.ty.now c.in-Some.found c.in_ok-same-in-Some.field-0 c.requires.ready.0
    (answer_some s kinds vars c.args.term.now c.in_ok-found.field-0 c.in-Some.found c.in-Some.is c.in_ok-found.ensures)
    (subst (λ (u : TypeTree). IsTrue c.in_ok-same-in-Some.field-0 ↔ SameTypes c.args.ty.now u) c.ty.ensures c.in_ok-same-in-Some.ensures)

pub has_type-returns-in-None : goal.has_type-returns-in-None
has_type-returns-in-None t c =
    let s = setting_in c.args.scene.now in
    let kinds = reverse c.args.kinds.now in
    let vars = c.args.vars.now.vars in
    up_to_none c.args.ty.now (answer_is_none s kinds vars c.args.term.now c.in_ok-found.field-0 c.in-None.is c.in_ok-found.ensures)

-- vectors
pub infer_vector-returns-in_default : goal.infer_vector-returns-in_default
infer_vector-returns-in_default t c = vec_element c.args.ty.now c.args.elements.now c.in_default.ensures

pub infer_vector-has_type-requires : goal.infer_vector-has_type-requires
infer_vector-has_type-requires t c =
    (omega (arith, c.decreases, term_smaller c.args.elements.now c.loop-e.e-index c.e-item.result _ c.loop-e-test.true c.e-item.is), (c.requires.ready, c.requires.table))

pub infer_vector-returns-then-not-branch : goal.infer_vector-returns-then-not-branch
infer_vector-returns-then-not-branch t c =
    let P = λ (e : TermTree). HasTypeUpTo (setting_in c.args.scene.now) (reverse c.args.kinds.now) c.args.vars.now.vars e c.args.ty.now in
    vec_elements c.args.ty.now c.args.elements.now (λ h. not_true _ c.if-not-branch.true (c.in_ok-has_type.ensures.1 (each_at P c.args.elements.now c.loop-e.e-index c.e-item.result _ c.loop-e-test.true c.e-item.is h)))

pub infer_vector-loop-e-preserved : goal.infer_vector-loop-e-preserved
infer_vector-loop-e-preserved t c =
    let P = λ (e : TermTree). HasTypeUpTo (setting_in c.args.scene.now) (reverse c.args.kinds.now) c.args.vars.now.vars e c.args.ty.now in
    each_next P c.args.elements.now c.loop-e.e-index c.e-item.result _ c.loop-e-test.true c.e-item.is c.loop-e.invariant (c.in_ok-has_type.ensures.0 c.if-not-branch.false)

pub infer_vector-returns : goal.infer_vector-returns
infer_vector-returns t c =
    let P = λ (e : TermTree). HasTypeUpTo (setting_in c.args.scene.now) (reverse c.args.kinds.now) c.args.vars.now.vars e c.args.ty.now in
    let count : c.in_ok-len.len ≡ length c.args.elements.now = omega (arith, c.in_ok-len.ensures.narrow) in
    vec_typed c.args.ty.now c.in-Some.kind c.args.elements.now c.in_ok-len.len _ c.in-Some.ensures
    (each_all P c.args.elements.now c.loop-e.e-index (omega (arith, c.loop-e-test.false)) c.loop-e.invariant) count
    c.in_ok-ty.ensures refl

-- cases
pub infer_case-infer-requires : goal.infer_case-infer-requires
infer_case-infer-requires t c = (omega (arith, c.decreases), (c.requires.ready, c.requires.table))

pub infer_case-returns-in_default : goal.infer_case-returns-in_default
infer_case-returns-in_default t c =
    let s = setting_in c.args.scene.now in
    let kinds = reverse c.args.kinds.now in
    let vars = c.args.vars.now.vars in
    case_on c.args.alts.now (answer_none s kinds vars c.args.on.now c.in_ok-on.field-0 c.in_default.not-Some c.in_ok-on.ensures)

pub infer_case-returns-then-not-is_looked_at : goal.infer_case-returns-then-not-is_looked_at
infer_case-returns-then-not-is_looked_at t c =
    let s = setting_in c.args.scene.now in
    let kinds = reverse c.args.kinds.now in
    let vars = c.args.vars.now.vars in
    let on = c.in-Some.on in
    case_looked c.args.alts.now on c.requires.ready.0 (answer_some s kinds vars c.args.on.now c.in_ok-on.field-0 on c.in-Some.is c.in_ok-on.ensures)
    (looked_none on.ty (sym (ap is_looked_at c.ty.ensures) ∙ sym c.is_looked_at.ensures ∙ c.if-not-is_looked_at.true))

pub infer_case-returns-then-not-branch : goal.infer_case-returns-then-not-branch
infer_case-returns-then-not-branch t c =
    case_hidden c.args.alts.now (λ h. not_true _ c.if-not-branch.true (c.in_ok-none_hidden.ensures.1 h))

pub infer_case-infer_alts-requires : goal.infer_case-infer_alts-requires
infer_case-infer_alts-requires t c =
    let s = setting_in c.args.scene.now in
    let kinds = reverse c.args.kinds.now in
    let vars = c.args.vars.now.vars in
    let typed = answer_some s kinds vars c.args.on.now c.in_ok-on.field-0 c.in-Some.on c.in-Some.is c.in_ok-on.ensures in
    (omega (arith, c.decreases), (c.requires.ready, (c.requires.table, typed.1)))

pub infer_case-returns : goal.infer_case-returns
infer_case-returns t c =
    let s = setting_in c.args.scene.now in
    let kinds = reverse c.args.kinds.now in
    let vars = c.args.vars.now.vars in
    let on = c.in-Some.on in
    let alts = c.args.alts.now in
    let typed = answer_some s kinds vars c.args.on.now c.in_ok-on.field-0 on c.in-Some.is c.in_ok-on.ensures in
    let looked = looked_found on.ty (sym (ap is_looked_at c.ty.ensures) ∙ sym c.is_looked_at.ensures ∙ c.if-not-is_looked_at.false) in
    let hidden = c.in_ok-none_hidden.ensures.0 c.if-not-branch.false in
    ok_more c.infer_alts.result (λ r. (e : TermTree) → IsTyped s kinds vars e on → IsLookedAt on.ty → NoneHidden (alts_of alts) → IsAnswer s kinds vars (case_of e (alts_of alts)) r) (IsAnswer s kinds vars (case_of c.args.on.now (alts_of alts)))
    (λ r h. h c.args.on.now typed looked hidden) c.infer_alts.ensures

pub infer_alts-infer_alt-requires : goal.infer_alts-infer_alt-requires
infer_alts-infer_alt-requires t c =
    (omega (arith, c.decreases, alt_smaller c.args.alts.now c.loop-alt.alt-index c.alt-item.result _ c.loop-alt-test.true c.alt-item.is), (c.requires.ready, (c.requires.table, c.requires.on)))

pub infer_alts-returns-in_default : goal.infer_alts-returns-in_default
infer_alts-returns-in_default t c e d looked hidden =
    let s = setting_in c.args.scene.now in
    let kinds = reverse c.args.kinds.now in
    let vars = c.args.vars.now.vars in
    let on = c.args.on.now in
    let a = c.alt-item.result in
    case_alt c.args.alts.now on c.loop-alt.alt-index a _ c.requires.ready.0 d c.loop-alt-test.true c.alt-item.is
    (of_none (GivesNothing s kinds vars on.ty a) (λ f. Gives s kinds vars on.ty a f) c.in_ok-next.field-0 c.in_default.not-Some c.in_ok-next.ensures)

pub infer_alts-returns-in_default-2 : goal.infer_alts-returns-in_default-2
infer_alts-returns-in_default-2 t c e d looked hidden =
    let s = setting_in c.args.scene.now in
    let kinds = reverse c.args.kinds.now in
    let vars = c.args.vars.now.vars in
    let on = c.args.on.now in
    let a = c.alt-item.result in
    let next = c.in-Some.next in
    let gives = of_some (GivesNothing s kinds vars on.ty a) (λ f. Gives s kinds vars on.ty a f) c.in_ok-next.field-0 next c.in-Some.is c.in_ok-next.ensures in
    joined_none on c.args.alts.now c.loop-alt.alt-index a _ c.loop-alt.given next c.requires.ready.0 d c.loop-alt-test.true c.alt-item.is c.loop-alt.invariant gives
    (nothing_joined on c.loop-alt.given next c.in_ok-so_far.field-0 c.in_default-2.not-Some c.in_ok-so_far.ensures)

pub infer_alts-loop-alt-preserved : goal.infer_alts-loop-alt-preserved
infer_alts-loop-alt-preserved t c =
    let s = setting_in c.args.scene.now in
    let kinds = reverse c.args.kinds.now in
    let vars = c.args.vars.now.vars in
    let on = c.args.on.now in
    let a = c.alt-item.result in
    let next = c.in-Some.next in
    let so_far = c.in-Some-2.so_far in
    let gives = of_some (GivesNothing s kinds vars on.ty a) (λ f. Gives s kinds vars on.ty a f) c.in_ok-next.field-0 next c.in-Some.is c.in_ok-next.ensures in
    joined_next on c.args.alts.now c.loop-alt.alt-index a _ c.loop-alt.given next so_far c.loop-alt-test.true c.alt-item.is c.loop-alt.invariant gives
    (subst (IsJoined on c.loop-alt.given next) c.in-Some-2.is c.in_ok-so_far.ensures)

pub infer_alts-returns : goal.infer_alts-returns
infer_alts-returns t c e d looked hidden =
    together_told c.args.on.now c.args.alts.now c.loop-alt.alt-index c.loop-alt.given (omega (arith, c.loop-alt-test.false)) c.loop-alt.invariant d looked hidden

pub infer_alt-bound_types-requires : goal.infer_alt-bound_types-requires
infer_alt-bound_types-requires t c =
    record { sound = c.requires.ready.0.0; table = c.requires.table; kinded = (c.args.on.now.kind, c.requires.on) }

pub infer_alt-returns-in_default : goal.infer_alt-returns-in_default
infer_alt-returns-in_default t c bound u b d =
    let s = setting_in c.args.scene.now in
    let kinds = reverse c.args.kinds.now in
    let on = c.args.on.now in
    let a = c.args.alt.now in
    of_none (BindsNothing s kinds on.ty a.pattern) (λ (b : Bound). BindsKinded s kinds on.ty a.pattern b) c.in_ok-bound.field-0 c.in_default.not-Some c.in_ok-bound.ensures bound b

pub infer_alt-infer-requires : goal.infer_alt-infer-requires
infer_alt-infer-requires t c =
    let s = setting_in c.args.scene.now in
    let kinds = reverse c.args.kinds.now in
    let outer = c.args.vars.now in
    let vars = outer.vars in
    let on = c.args.on.now in
    let a = c.args.alt.now in
    let bound = c.in-Some.bound in
    let binds = of_some (BindsNothing s kinds on.ty a.pattern) (λ (b : Bound). BindsKinded s kinds on.ty a.pattern b) c.in_ok-bound.field-0 bound c.in-Some.is c.in_ok-bound.ensures in
    let inside = fields_inside s kinds bound outer c.with_bound-inner.result c.requires.ready binds.0.typed binds.1 c.with_bound-inner.ensures.types c.with_bound-inner.ensures.kinds in
    (omega (arith, c.decreases), (inside.set, c.requires.table))

pub infer_alt-returns : goal.infer_alt-returns
infer_alt-returns t c =
    let s = setting_in c.args.scene.now in
    let kinds = reverse c.args.kinds.now in
    let outer = c.args.vars.now in
    let vars = outer.vars in
    let on = c.args.on.now in
    let a = c.args.alt.now in
    let bound = c.in-Some.bound in
    let binds = of_some (BindsNothing s kinds on.ty a.pattern) (λ (b : Bound). BindsKinded s kinds on.ty a.pattern b) c.in_ok-bound.field-0 bound c.in-Some.is c.in_ok-bound.ensures in
    let inside = fields_inside s kinds bound outer c.with_bound-inner.result c.requires.ready binds.0.typed binds.1 c.with_bound-inner.ensures.types c.with_bound-inner.ensures.kinds in
    ok_more c.infer.result (IsAnswer s kinds c.with_bound-inner.result.vars a.body) (λ r. MatchOption r (GivesNothing s kinds vars on.ty a) (λ f. Gives s kinds vars on.ty a f))
    (λ r h. gives_told s kinds vars on.ty a (bound_types bound) on.kind r c.requires.ready.0 c.requires.on binds.0 (subst (λ vars. IsAnswer s kinds vars a.body r) inside.vars h)) c.infer.ensures
