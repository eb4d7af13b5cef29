-- What rules make of a lambda, a letrec and a case that are applied keeps types.
use Rattle.std.proofs.Common.{◌∷◌, ◌≡◌, List, Some, [], arith, length, map, refl, subst, sym, zero, ℕ}
use Rattle.std.specs.List.{slice_get}
use Rattle.chw_types.proofs.SameLaws.{same_self, same_through, same_turned}
use Rattle.chw_types.proofs.TypeLaws.{put_shift}
use Rattle.chw_types.specs.Kinds.{HasFunctions}
use Rattle.chw_types.specs.SameTypes.{SameTypes}
use Rattle.chw_types.specs.TypeMoves.{put as put_type, put_at as type_put_at, raised}
use Rattle.chw_types.specs.TypeTree.{TypeTree, for_all, fun}
use Rattle.chw_types.specs.declared.declarations.Data.{Data}
use Rattle.chw_types.specs.declared.kind.Kind.{Kind}
use Rattle.type_laws.proofs.SameForms.{as_bound, as_function}
use Rattle.chw_terms.specs.Evaluated.{put_type_in}
use Rattle.chw_terms.specs.TermMoves.{rename, shift}
use Rattle.chw_terms.specs.TermTree.{Alts, Group, TermTree, app, bind, case_of, lam, letrec, no_bindings, size_of, ty_app, ty_lam, var}
use Rattle.chw_terms.specs.TypesMoved.{put_types}
use Rattle.chw_terms.specs.declared.rule.Rule.{Rule}
use Rattle.chw_typing.proofs.Kinded.{bound_part, function_parts, type_kinded, typed_more, typed_under}
use Rattle.chw_typing.proofs.OneType.{one_type, put_same_of_kinds}
use Rattle.chw_typing.proofs.Patterns.{are_of_terms}
use Rattle.chw_typing.proofs.Renamed.{declared_length}
use Rattle.chw_typing.proofs.SameScopes.{are_same_self}
use Rattle.chw_typing.proofs.TermsEvaluated.{type_evaluated}
use Rattle.chw_typing.proofs.TermsPut.{kind_same}
use Rattle.chw_typing.proofs.TypesRenamed.{closed_put_typed, closed_type_put}
use Rattle.chw_typing.specs.Programs.{IsComplete, IsSound}
use Rattle.chw_typing.specs.Scopes.{AreSame, AreTermTypes, HasKind, IsTermType, Setting, declared, under_binder, with_more}
use Rattle.chw_typing.specs.Typing.{HasType, HasTypeUpTo, bound_and, h_app, h_lam, h_letrec, h_ty_app, h_ty_lam, h_var, none_bound}
use Rattle.chw_typing.specs.Groups.{each_body}
use Rattle.chw_typing.proofs.Applied.{type_applied_kind}
use Rattle.chw_typing.proofs.FoundTyped.{found_is_type}
use Rattle.rewriting.specs.Origins.{Origins}
use Rattle.rewriting.specs.Spots.{Spot}
use Rattle.rewriting.specs.Functions.{OfFunctions, app_case, app_case_type, app_let, app_let_type, beta, ty_beta}
use Rattle.rewriting.specs.Shapes.{shift_alts}
use Rattle.rule_types.proofs.Bodies.{BodiesBecome, KindsBecome, each_case, renames_past, shifted_more, up_to, up_to_same}
use Rattle.rule_types.proofs.Complete.{each_complete, evaluated_complete, renamed_complete, typed_complete}
use Rattle.rule_types.specs.Laws.{IsTypedPlace, KeepsType}

-- a lambda becomes a let
beta_typed : {s : Setting} {kinds : List Kind} {vars : List TypeTree} {u t : TypeTree} {e a : TermTree} → HasType s kinds vars (app (lam u e) a) t → HasType s kinds vars (letrec (bind u (shift a 0 1) no_bindings) e) t
beta_typed {u = u} (h_app (h_lam de fk) da x) =
    let parts = function_parts fk in
    h_letrec de parts.2 (bound_and parts.1 parts.3 (shifted_more (u ∷ []) 1 refl da) x none_bound)

-- a type lambda gets its type
shifted_back : (vars : List TypeTree) (a : TypeTree) → AreSame (map (λ u. put_type u 0 a) (under_binder vars)) vars
shifted_back [] a = tt
shifted_back (t ∷ vars) a = (subst (λ u. SameTypes u t) (sym (put_shift t a 0)) (same_self t), shifted_back vars a)

type_beta_typed : {s : Setting} {vars : List TypeTree} {k : Kind} {a t : TypeTree} {e : TermTree} → IsSound s → AreTermTypes s [] vars → HasType s [] vars (ty_app (ty_lam k e) a) t → HasTypeUpTo s [] vars (put_type_in e a) t
type_beta_typed {s} {vars} {k} {a} {e = e} h g (h_ty_app {t = b} (h_ty_lam de) ka x kt) =
    let scope = typed_under s [] k vars g in
    let put = closed_type_put [] [] a k de h scope ka in
    up_to_same (type_evaluated put h (closed_put_typed s [] [] (under_binder vars) a k scope ka) vars g (shifted_back vars a)) (same_turned x)

-- an argument moves into a letrec
app_let_typed : {s : Setting} {kinds : List Kind} {vars : List TypeTree} {t : TypeTree} {g : Group} {e a : TermTree} → HasType s kinds vars (app (letrec g e) a) t → HasType s kinds vars (letrec g (app e (shift a 0 (size_of g)))) t
app_let_typed {g = g} (h_app (h_letrec de kt bs) da x) =
    h_letrec (h_app de (shifted_more (declared g) (size_of g) (declared_length g) da) x) (function_parts kt).2 bs

app_let_type_typed : {s : Setting} {kinds : List Kind} {vars : List TypeTree} {t a : TypeTree} {g : Group} {e : TermTree} → HasType s kinds vars (ty_app (letrec g e) a) t → HasType s kinds vars (letrec g (ty_app e a)) t
app_let_type_typed {s} {kinds} {t = t} {a = a} (h_ty_app {j = j} {k = i} {t = b} (h_letrec {k = k} de kt bs) ka x ku) =
    let is : i ≡ k = type_applied_kind s kinds b a t i j k kt ka x ku in
    h_letrec (h_ty_app de ka x ku) (subst (HasKind s kinds t) is ku) bs

-- a variable just outside of a pattern's
just_outside : (new vars : List TypeTree) (t : TypeTree) (n : ℕ) → length new ≡ n → slice_get (with_more new (t ∷ vars)) n ≡ Some t
just_outside new vars t n l =
    let at : raised 0 n 0 ≡ n = omega arith in
    subst (λ x. slice_get (with_more new (t ∷ vars)) x ≡ Some t) at (renames_past new (t ∷ vars) n l zero t refl)

-- an argument gets a name and moves into a case
app_case_typed : {s : Setting} {kinds : List Kind} {vars : List TypeTree} {t u : TypeTree} {e a : TermTree} {alts : Alts} → IsSound s → AreTermTypes s kinds vars → HasType s kinds vars a u → HasType s kinds vars (app (case_of e alts) a) t → HasTypeUpTo s kinds vars (letrec (bind u (shift a 0 1) no_bindings) (case_of (shift e 0 1) (each_body (λ n f. app f (var n)) (shift_alts alts 0 1)))) t
unfolding rename
app_case_typed {s} {kinds} {vars} {t} {u} {e} {a} {alts} h g da (h_app {a = b} d dc x) =
    record {
      type = of.type;
      has = h_letrec of.has (kind_same s kinds t of.type whole.kind parts.2 is of.same)
          (bound_and (kind_same s kinds b u parts.0 parts.1 named same) parts.3 (shifted_more (u ∷ []) 1 refl da) (same_self u) none_bound);
      same = of.same;
    }
  where
    same : SameTypes b u
    same = same_through x (one_type dc da h g g (are_same_self vars))

    whole : IsTermType s kinds (fun b t)
    whole = type_kinded d h g

    parts : (j : Kind) × HasKind s kinds b j × HasKind s kinds t whole.kind × HasFunctions j whole.kind
    parts = function_parts whole.has

    named : IsTermType s kinds u
    named = type_kinded da h g

    inside : HasType s kinds (u ∷ vars) (case_of (shift e 0 1) (shift_alts alts 0 1)) (fun b t)
    inside = shifted_more (u ∷ []) 1 refl d

    applied_there : BodiesBecome s kinds (u ∷ vars) (fun b t) t (λ n f. app f (var n))
    applied_there bound n f w l typed df y =
        let at = as_function y in
        record {
          type = at.1;
          has = h_app (subst (HasType s kinds (with_more bound (u ∷ vars)) f) at.2 df) (h_var (just_outside bound vars u n l)) (same_through (same_turned at.3) same);
          same = at.4;
        }

    of : HasTypeUpTo s kinds (u ∷ vars) (case_of (shift e 0 1) (each_body (λ n f. app f (var n)) (shift_alts alts 0 1))) t
    of = each_case h (named, g) inside t (λ n f. app f (var n)) applied_there (λ i k kt allow. (k, (function_parts kt).2, allow))

    is : IsTermType s kinds of.type
    is = type_kinded of.has h (named, g)

app_case_type_typed : {s : Setting} {kinds : List Kind} {vars : List TypeTree} {t a : TypeTree} {e : TermTree} {alts : Alts} → IsSound s → AreTermTypes s kinds vars → HasType s kinds vars (ty_app (case_of e alts) a) t → HasTypeUpTo s kinds vars (case_of e (each_body (λ n f. ty_app f a) alts)) t
app_case_type_typed {s} {kinds} {vars} {t} {a} h g (h_ty_app {j = j} {k = i} {t = b} d ka x ku) =
    each_case h g d t (λ n f. ty_app f a) applied_there kinds_there
  where
    applied_there : BodiesBecome s kinds vars (for_all j b) t (λ n f. ty_app f a)
    applied_there bound n f w l typed df y =
        let at = as_bound y in
        let has = subst (HasType s kinds (with_more bound vars) f) at.1 df in
        let inner = typed_more s kinds bound vars typed g in
        let part = put_same_of_kinds j (are_of_terms s h) (bound_part (type_kinded d h g).has).0 (bound_part (type_kinded has h inner).has).0 ka at.2 (same_self a) in
        up_to (h_ty_app has ka (same_through (same_turned part) x) ku)

    kinds_there : KindsBecome s kinds (for_all j b) t
    kinds_there l k kt allow =
        let is : i ≡ k = type_applied_kind s kinds b a t i j k kt ka x ku in
        (k, subst (HasKind s kinds t) is ku, allow)

pub functions_keep : (o : Origins) (at : Spot) → IsTypedPlace o at → {r : Rule} {e e' : TermTree} → OfFunctions o at r e e' → KeepsType o at e e'
functions_keep o at h ty_beta t d = type_beta_typed h.sound h.vars d
functions_keep o at h beta t d = up_to (beta_typed d)
functions_keep o at h app_let t d = up_to (app_let_typed d)
functions_keep o at h app_let_type t d = up_to (app_let_type_typed d)
functions_keep o at h (app_case f) t d = app_case_typed h.sound h.vars (found_is_type f) d
functions_keep o at h app_case_type t d = app_case_type_typed h.sound h.vars d

pub functions_keep_complete : (o : Origins) (at : Spot) (datas : List Data) {r : Rule} {e e' : TermTree} → OfFunctions o at r e e' → IsComplete datas e → IsComplete datas e'
unfolding rename
functions_keep_complete o at datas (ty_beta {e = e} {a = a}) h = evaluated_complete datas (put_types e 0 a) (typed_complete datas e (type_put_at 0 a) h)
functions_keep_complete o at datas (beta {a = a}) h = ((renamed_complete datas a (raised 0 1) h.1, tt), h.0)
functions_keep_complete o at datas (app_let {g = g} {a = a}) h = (h.0.0, (h.0.1, renamed_complete datas a (raised 0 (size_of g)) h.1))
functions_keep_complete o at datas app_let_type h = (h.0, h.1)
functions_keep_complete o at datas (app_case {e = e} {a = a} {alts = alts} f) h =
    ((renamed_complete datas a (raised 0 1) h.1, tt), each_complete datas (λ n f. app f (var n)) (shift e 0 1) (shift_alts alts 0 1) (λ n f k. (k, tt)) (renamed_complete datas (case_of e alts) (raised 0 1) h.0))
functions_keep_complete o at datas (app_case_type {e = e} {alts = alts} {a = a}) h = each_complete datas (λ n f. ty_app f a) e alts (λ n f k. k) h
