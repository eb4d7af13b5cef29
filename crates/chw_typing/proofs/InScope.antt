-- The variables that occur in a typed term are in scope.
use Rattle.std.proofs.Common.{◌≡◌, ℕ, suc, ◌+◌, ◌<◌, Bool, true, ◌||◌, ◌⊎◌, inl, inr, sym, arith, subst, List, ◌∷◌, length, reverse, eqb-true}
use Rattle.std.proofs.lemmas.Bool.{true≢false, or_cases}
use Rattle.std.proofs.lemmas.List.{length-reverse, length-map, length-append}
use Rattle.std.proofs.lemmas.Option.{slice_get_within}
use Rattle.chw_types.specs.declared.kind.Kind.{Kind}
use Rattle.chw_types.specs.TypeTree.{TypeTree}
use Rattle.chw_types.specs.TypeMoves.{shift}
use Rattle.chw_terms.specs.TermTree.{TermTree, Terms, Group, Alts, binders, size_of}
use Rattle.chw_terms.specs.Occurs.{occurs, occurs_all, occurs_group, occurs_alts}
use Rattle.chw_typing.specs.Scopes.{Setting, with_more, declared}
use Rattle.chw_typing.specs.Typing.{HasType, h_var, h_global, h_made, h_lam, h_app, h_ty_lam, h_ty_app, h_letrec, h_con, h_prim, h_lit, h_vec, h_case, AreBound, none_bound, bound_and, AllHave, none_have, have_and, AllGive, none_give, give_and}
use Rattle.chw_typing.proofs.Patterns.{binds}
use Rattle.chw_typing.proofs.Renamed.{declared_length}

-- under binders for as many variables
below_more : (new vars : List TypeTree) (n x : ℕ) → length new ≡ n → x + n < length (with_more new vars) → x < length vars
below_more new vars n x l h =
    let many = length-append (reverse new) vars in
    let same = length-reverse new in
    omega (arith, h, many, same, l)

-- of one of two, what follows of each
either : {x y : Bool} (P : Type 0) → (x || y) ≡ true → (x ≡ true → P) → (y ≡ true → P) → P
either {x} {y} P h f g = at (or_cases x y h)
  where
    at : (x ≡ true) ⊎ (y ≡ true) → P
    at (inl e) = f e
    at (inr e) = g e

mutual
  unfolding occurs

  pub in_scope : {s : Setting} {kinds : List Kind} {vars : List TypeTree} {e : TermTree} {t : TypeTree} → HasType s kinds vars e t → (x : ℕ) → occurs e x ≡ true → x < length vars
  in_scope (h_var {vars = vars} {x = y} {t = t} e) x h =
      let is : y ≡ x = eqb-true y x h in
      subst (λ z. z < length vars) is (slice_get_within vars y t e)
  in_scope (h_global e) x h = absurd (true≢false (sym h))
  in_scope (h_made e) x h = absurd (true≢false (sym h))
  in_scope (h_lam {vars = vars} {a = a} d k) x h =
      let l : suc x < length (a ∷ vars) = in_scope d (suc x) h in
      omega (arith, l)
  in_scope (h_app {vars = vars} d e y) x h = either (x < length vars) h (in_scope d x) (in_scope e x)
  in_scope (h_ty_lam {vars = vars} d) x h = subst (λ n. x < n) (length-map vars (λ t. shift t 0 1)) (in_scope d x h)
  in_scope (h_ty_app d k y l) x h = in_scope d x h
  in_scope (h_letrec {vars = vars} {g = g} d l b) x h =
      below_more (declared g) vars (size_of g) x (declared_length g)
      (either (x + size_of g < length (with_more (declared g) vars)) h (bound_in_scope b (x + size_of g)) (in_scope d (x + size_of g)))
  in_scope (h_con e) x h = absurd (true≢false (sym h))
  in_scope h_prim x h = absurd (true≢false (sym h))
  in_scope (h_lit l) x h = absurd (true≢false (sym h))
  in_scope (h_vec k d) x h = all_in_scope d x h
  in_scope (h_case {vars = vars} {bound = bound} {q = q} d i j p e k a o n) x h =
      either (x < length vars) h (in_scope d x)
      (λ g. either (x < length vars) g (λ f. below_more bound vars (binders q) x (binds p) (in_scope e (x + binders q) f)) (given_in_scope o x))

  pub bound_in_scope : {s : Setting} {kinds : List Kind} {vars : List TypeTree} {k : Kind} {g : Group} → AreBound s kinds vars k g → (x : ℕ) → occurs_group g x ≡ true → x < length vars
  bound_in_scope none_bound x h = absurd (true≢false (sym h))
  bound_in_scope (bound_and {vars = vars} j f d y b) x h = either (x < length vars) h (in_scope d x) (bound_in_scope b x)

  pub all_in_scope : {s : Setting} {kinds : List Kind} {vars : List TypeTree} {t : TypeTree} {es : Terms} → AllHave s kinds vars t es → (x : ℕ) → occurs_all es x ≡ true → x < length vars
  all_in_scope none_have x h = absurd (true≢false (sym h))
  all_in_scope (have_and {vars = vars} d y ds) x h = either (x < length vars) h (in_scope d x) (all_in_scope ds x)

  pub given_in_scope : {s : Setting} {kinds : List Kind} {vars : List TypeTree} {u t : TypeTree} {alts : Alts} → AllGive s kinds vars u t alts → (x : ℕ) → occurs_alts alts x ≡ true → x < length vars
  given_in_scope none_give x h = absurd (true≢false (sym h))
  given_in_scope (give_and {vars = vars} {bound = bound} {q = q} p d y ds) x h =
      either (x < length vars) h (λ f. below_more bound vars (binders q) x (binds p) (in_scope d (x + binders q) f)) (given_in_scope ds x)
