-- A variable that occurs in a term of a type of values has such a type.
use Rattle.std.proofs.Common.{◌≡◌, ◌∙◌, ◌⊎◌, inl, inr, refl, sym, ap, subst, ℕ, suc, zero, ◌+◌, Bool, true, ◌||◌, List, [], ◌∷◌, ◌++◌, length, reverse, arith, Some, eqb-true}
use Rattle.std.proofs.lemmas.Bool.{or_cases, true≢false}
use Rattle.std.proofs.lemmas.List.{length-reverse}
use Rattle.std.specs.List.{slice_get}
use Rattle.chw_types.specs.declared.declarations.Data.{Data}
use Rattle.chw_types.specs.declared.kind.Kind.{Kind}
use Rattle.chw_types.specs.declared.kind.Kind.TheVariants.{Nat, Dom, Val, Cir}
use Rattle.chw_types.specs.Kinds.{HasFunctions, KindOf, kind_vector}
use Rattle.chw_types.specs.SameTypes.{SameTypes}
use Rattle.chw_types.specs.TypeMoves.{put_at, raised, shift}
use Rattle.chw_types.specs.TypeTree.{TypeTree, fun, for_all, vector}
use Rattle.chw_types.proofs.KindsFound.{one_kind}
use Rattle.chw_types.proofs.KindsKept.{kind_renamed, renames_shift}
use Rattle.type_laws.proofs.KindsExact.{put_at_kinds}
use Rattle.type_laws.proofs.OneKind.{same_kind}
use Rattle.chw_terms.specs.Occurs.{occurs, occurs_all, occurs_group, occurs_alts}
use Rattle.chw_terms.specs.TermTree.{TermTree, Terms, Group, Alts, binders, size_of}
use Rattle.chw_typing.specs.Programs.{IsSound}
use Rattle.chw_typing.specs.Scopes.{Setting, HasKind, AreTermTypes, IsTermType, with_more, declared}
use Rattle.chw_typing.specs.Typing.{HasType, h_var, h_global, h_made, h_lam, h_app, h_ty_lam, h_ty_app, h_letrec, h_con, h_prim, h_lit, h_vec, h_case, AreBound, none_bound, bound_and, AllHave, none_have, have_and, AllGive, none_give, give_and}
use Rattle.chw_typing.proofs.Kinded.{typed_at, typed_more, typed_under, bound_typed, type_kinded, function_parts, bound_part}
use Rattle.chw_typing.proofs.Lists.{found_in_map}
use Rattle.chw_typing.proofs.Patterns.{binds}
use Rattle.chw_typing.proofs.PutKinds.{same_kind_put}
use Rattle.chw_typing.proofs.Renamed.{declared_length}

-- only values go to values
pub from_values : (j : Kind) → HasFunctions j Val → j ≡ Val
from_values Val h = refl
from_values Nat h = absurd h
from_values Dom h = absurd h
from_values Cir h = absurd h

of_kind : (s : Setting) (kinds : List Kind) (t : TypeTree) (k : Kind) → HasKind s kinds t k → k ≡ Val → HasKind s kinds t Val
of_kind s kinds t k d e = subst (HasKind s kinds t) e d

-- the parameter of a function of values
parameter_kind : {datas : List Data} {domains : ℕ} {scope : List Kind} {a b : TypeTree} → KindOf datas domains scope (fun a b) Val → KindOf datas domains scope a Val
parameter_kind {datas} {domains} {scope} {a} d = let of = function_parts d in subst (KindOf datas domains scope a) (from_values of.0 of.3) of.1

-- the element of a vector
element_kind : {datas : List Data} {domains : ℕ} {scope : List Kind} {n t : TypeTree} {k : Kind} → KindOf datas domains scope (vector n t) k → KindOf datas domains scope t k
element_kind (kind_vector d e l) = e

-- what is the same as a type of values, and the type of a term, is one of values
same_values : {s : Setting} {kinds : List Kind} {vars : List TypeTree} {e : TermTree} {t u : TypeTree} → IsSound s → AreTermTypes s kinds vars → HasType s kinds vars e u → SameTypes t u → HasKind s kinds t Val → HasKind s kinds u Val
same_values {s} {kinds} {u = u} h g d x v = let of = type_kinded d h g in of_kind s kinds u of.kind of.has (sym (same_kind x v of.has))

-- a variable in scope where more are bound
behind : (new vars : List TypeTree) (x n : ℕ) (u : TypeTree) → n ≡ x + length new → slice_get vars x ≡ Some u → slice_get (new ++ vars) n ≡ Some u
behind [] vars x n u e q = let is : x ≡ n = omega (arith, e) in subst (λ m. slice_get vars m ≡ Some u) is q
behind (a ∷ new) vars x zero u e q = absurd (omega (arith, e))
behind (a ∷ new) vars x (suc n) u e q = behind new vars x n u (omega (arith, e)) q

under_more : (new vars : List TypeTree) (n x : ℕ) (u : TypeTree) → length new ≡ n → slice_get vars x ≡ Some u → slice_get (with_more new vars) (x + n) ≡ Some u
under_more new vars n x u l q = behind (reverse new) vars x (x + n) u (let same = length-reverse new in omega (arith, same, l)) q

-- of one of two, what follows of each
either : {x y : Bool} (P : Type 0) → (x || y) ≡ true → (x ≡ true → P) → (y ≡ true → P) → P
either {x} {y} P h f g = at (or_cases x y h)
  where
    at : (x ≡ true) ⊎ (y ≡ true) → P
    at (inl e) = f e
    at (inr e) = g e

-- the kind of a type under one more type binder
lowered_kind : (s : Setting) (kinds : List Kind) (j : Kind) (u : TypeTree) → IsTermType s kinds u → HasKind s (j ∷ kinds) (shift u 0 1) Val → HasKind s kinds u Val
lowered_kind s kinds j u typed v = of_kind s kinds u typed.kind typed.has (one_kind (kind_renamed typed.has (raised 0 1) (j ∷ kinds) (renames_shift [] (j ∷ []) kinds)) v)

mutual
  unfolding occurs

  pub values_hold : {s : Setting} {kinds : List Kind} {vars : List TypeTree} {e : TermTree} {t : TypeTree} → IsSound s → HasType s kinds vars e t → AreTermTypes s kinds vars → HasKind s kinds t Val → (x : ℕ) (u : TypeTree) → occurs e x ≡ true → slice_get vars x ≡ Some u → HasKind s kinds u Val
  values_hold {s} {kinds} {vars} h (h_var {x = y} {t = t} e) g v x u o q =
      let is : y ≡ x = eqb-true y x o in
      let both : Some t ≡ Some u = sym e ∙ ap (slice_get vars) is ∙ q in
      let same : t ≡ u = cc in
      subst (λ t. HasKind s kinds t Val) same v
  values_hold h (h_global e) g v x u o q = absurd (true≢false (sym o))
  values_hold h (h_made e) g v x u o q = absurd (true≢false (sym o))
  values_hold h (h_lam d l) g v x u o q = values_hold h d (record { kind = Val; has = parameter_kind v; of_terms = tt }, g) (function_parts v).2 (suc x) u o q
  values_hold {s} {kinds} h (h_app {a = a} {b = b} d e m) g v x u o q =
      let of = type_kinded d h g in
      let whole = of_kind s kinds (fun a b) of.kind of.has (one_kind (function_parts of.has).2 v) in
      either (HasKind s kinds u Val) o (λ o. values_hold h d g whole x u o q) (λ o. values_hold h e g (same_values h g e m (parameter_kind whole)) x u o q)
  values_hold {s} {kinds} {vars} h (h_ty_lam {j = j} d) g v x u o q =
      lowered_kind s kinds j u (typed_at s kinds vars x u g q)
      (values_hold h d (typed_under s kinds j vars g) (bound_part v).0 x (shift u 0 1) o (found_in_map (λ t. shift t 0 1) vars x u q))
  values_hold {s} {kinds} h (h_ty_app {j = j} {t = t} {a = a} {u = w} d l m k) g v x u o q =
      let of = type_kinded d h g in
      let is = same_kind_put (bound_part of.has).0 (put_at 0 a) kinds (put_at_kinds s.datas s.domains [] kinds a j l) w Val m v in
      values_hold h d g (of_kind s kinds (for_all j t) of.kind of.has (sym is)) x u o q
  values_hold {s} {kinds} {vars} h (h_letrec {g = group} d l b) g v x u o q =
      let inside = typed_more s kinds (declared group) vars (bound_typed b) g in
      let there = under_more (declared group) vars (size_of group) x u (declared_length group) q in
      either (HasKind s kinds u Val) o (λ o. group_holds h b (one_kind l v) inside (x + size_of group) u o there) (λ o. values_hold h d inside v (x + size_of group) u o there)
  values_hold h (h_con e) g v x u o q = absurd (true≢false (sym o))
  values_hold h h_prim g v x u o q = absurd (true≢false (sym o))
  values_hold h (h_lit l) g v x u o q = absurd (true≢false (sym o))
  values_hold h (h_vec l d) g v x u o q = all_hold h d g (element_kind v) x u o q
  values_hold {s} {kinds} {vars} h (h_case {bound = bound} {q = p} {u = w} {j = j} d i l b f m a more n) g v x u o q =
      let values : j ≡ Val = from_values j (subst (HasFunctions j) (one_kind m v) a) in
      either (HasKind s kinds u Val) o (λ o. values_hold h d g (of_kind s kinds w j l values) x u o q)
      (λ o. either (HasKind s kinds u Val) o
      (λ o. values_hold h f (typed_more s kinds bound vars b.typed g) v (x + binders p) u o (under_more bound vars (binders p) x u (binds b) q))
      (λ o. alts_hold h more g v x u o q))

  group_holds : {s : Setting} {kinds : List Kind} {vars : List TypeTree} {k : Kind} {g : Group} → IsSound s → AreBound s kinds vars k g → k ≡ Val → AreTermTypes s kinds vars → (x : ℕ) (u : TypeTree) → occurs_group g x ≡ true → slice_get vars x ≡ Some u → HasKind s kinds u Val
  group_holds h none_bound is g x u o q = absurd (true≢false (sym o))
  group_holds {s} {kinds} h (bound_and {j = j} {t = t} d a e m b) is g x u o q =
      let values : j ≡ Val = from_values j (subst (HasFunctions j) is a) in
      either (HasKind s kinds u Val) o (λ o. values_hold h e g (same_values h g e m (of_kind s kinds t j d values)) x u o q) (λ o. group_holds h b is g x u o q)

  all_hold : {s : Setting} {kinds : List Kind} {vars : List TypeTree} {t : TypeTree} {es : Terms} → IsSound s → AllHave s kinds vars t es → AreTermTypes s kinds vars → HasKind s kinds t Val → (x : ℕ) (u : TypeTree) → occurs_all es x ≡ true → slice_get vars x ≡ Some u → HasKind s kinds u Val
  all_hold h none_have g v x u o q = absurd (true≢false (sym o))
  all_hold {s} {kinds} h (have_and e m d) g v x u o q =
      either (HasKind s kinds u Val) o (λ o. values_hold h e g (same_values h g e m v) x u o q) (λ o. all_hold h d g v x u o q)

  alts_hold : {s : Setting} {kinds : List Kind} {vars : List TypeTree} {w t : TypeTree} {alts : Alts} → IsSound s → AllGive s kinds vars w t alts → AreTermTypes s kinds vars → HasKind s kinds t Val → (x : ℕ) (u : TypeTree) → occurs_alts alts x ≡ true → slice_get vars x ≡ Some u → HasKind s kinds u Val
  alts_hold h none_give g v x u o q = absurd (true≢false (sym o))
  alts_hold {s} {kinds} {vars} h (give_and {bound = bound} {q = p} b e m d) g v x u o q =
      let inside = typed_more s kinds bound vars b.typed g in
      either (HasKind s kinds u Val) o (λ o. values_hold h e inside (same_values h inside e m v) (x + binders p) u o (under_more bound vars (binders p) x u (binds b) q)) (λ o. alts_hold h d g v x u o q)

pub values_hold_values : (s : Setting) (kinds : List Kind) (vars : List TypeTree) (e : TermTree) (t : TypeTree) (x : ℕ) (u : TypeTree) → IsSound s → AreTermTypes s kinds vars → HasType s kinds vars e t → HasKind s kinds t Val → occurs e x ≡ true → slice_get vars x ≡ Some u → HasKind s kinds u Val
values_hold_values s kinds vars e t x u h g d v o q = values_hold h d g v x u o q
