-- Types are kept where the variables that occur go to ones of their types.
use Rattle.std.proofs.Common.{◌≡◌, ℕ, suc, zero, ◌+◌, Bool, true, ◌||◌, refl, sym, ◌∙◌, arith, subst, List, [], ◌∷◌, ◌++◌, length, reverse, Some, eq-eqb}
use Rattle.std.specs.List.{slice_get}
use Rattle.std.proofs.lemmas.Bool.{or_left, or_right}
use Rattle.std.proofs.lemmas.List.{length-reverse}
use Rattle.chw_types.specs.declared.kind.Kind.{Kind}
use Rattle.chw_types.specs.TypeTree.{TypeTree, nat_lit, vector}
use Rattle.chw_types.specs.TypeMoves.{Renaming, lift, lift_by, shift}
use Rattle.chw_terms.specs.TermTree.{TermTree, vec_lit, Terms, Group, Alts, alt, binders, size_of}
use Rattle.chw_terms.specs.TermMoves.{rename, rename_all, rename_group, rename_alts}
use Rattle.chw_terms.specs.Occurs.{occurs, occurs_all, occurs_group, occurs_alts}
use Rattle.chw_typing.proofs.GroupParts.{none_hidden_by, patterns_renamed}
use Rattle.chw_typing.specs.Scopes.{Setting, under_binder, with_more, declared}
use Rattle.chw_typing.specs.Typing.{HasType, h_var, h_global, h_made, h_lam, h_app, h_ty_lam, h_ty_app, h_letrec, h_con, h_prim, h_lit, h_vec, h_case, AreBound, none_bound, bound_and, AllHave, none_have, have_and, AllGive, none_give, give_and}
use Rattle.chw_typing.proofs.Lists.{found_in_map, found_before_map}
use Rattle.chw_typing.proofs.Patterns.{binds}
use Rattle.chw_typing.proofs.Renamed.{declared_length, declared_renamed, count_renamed}
use Rattle.chw_typing.specs.TypedPartLaws.{RenamesWhere}

where_under : (P : ℕ → Bool) (ρ : Renaming) (vars vars' : List TypeTree) (t : TypeTree) → RenamesWhere (λ x. P (suc x)) ρ vars vars' → RenamesWhere P (lift ρ) (t ∷ vars) (t ∷ vars')
where_under P ρ vars vars' t h zero u p e = e
where_under P ρ vars vars' t h (suc x) u p e = h x u p e

where_append : (new : List TypeTree) (P : ℕ → Bool) (ρ : Renaming) (vars vars' : List TypeTree) → RenamesWhere (λ x. P (x + length new)) ρ vars vars' → RenamesWhere P (lift_by (length new) ρ) (new ++ vars) (new ++ vars')
where_append [] P ρ vars vars' h = outer
  where
    outer : RenamesWhere P ρ vars vars'
    outer x t p e = let f : x ≡ x + 0 = omega arith in h x t (subst (λ z. P z ≡ true) f p) e
where_append (t ∷ new) P ρ vars vars' h = where_under P (lift_by (length new) ρ) (new ++ vars) (new ++ vars') t (where_append new (λ x. P (suc x)) ρ vars vars' inner)
  where
    inner : RenamesWhere (λ x. P (suc (x + length new))) ρ vars vars'
    inner x u p e = let f : suc (x + length new) ≡ x + suc (length new) = omega arith in h x u (subst (λ z. P z ≡ true) f p) e

-- under so many binders as there are new variables
where_more : (new : List TypeTree) (n : ℕ) (P : ℕ → Bool) (ρ : Renaming) (vars vars' : List TypeTree) → length new ≡ n → RenamesWhere (λ x. P (x + n)) ρ vars vars' → RenamesWhere P (lift_by n ρ) (with_more new vars) (with_more new vars')
where_more new n P ρ vars vars' l h =
    let same : length (reverse new) ≡ n = length-reverse new ∙ l in
    subst (λ m. RenamesWhere P (lift_by m ρ) (with_more new vars) (with_more new vars')) same
    (where_append (reverse new) P ρ vars vars' (subst (λ m. RenamesWhere (λ x. P (x + m)) ρ vars vars') (sym same) h))

where_under_binder : (P : ℕ → Bool) (ρ : Renaming) (vars vars' : List TypeTree) → RenamesWhere P ρ vars vars' → RenamesWhere P ρ (under_binder vars) (under_binder vars')
where_under_binder P ρ vars vars' h x t p e =
    let at = found_before_map (λ t. shift t 0 1) vars x t e in
    subst (λ u. slice_get (under_binder vars') (ρ x) ≡ Some u) at.2 (found_in_map (λ t. shift t 0 1) vars' (ρ x) at.0 (h x at.0 p at.1))

-- for each of two tests, where it is so for their disjunction
where_left : (P Q : ℕ → Bool) (ρ : Renaming) (vars vars' : List TypeTree) → RenamesWhere (λ x. P x || Q x) ρ vars vars' → RenamesWhere P ρ vars vars'
where_left P Q ρ vars vars' h x t p e = h x t (or_left (P x) (Q x) p) e

where_right : (P Q : ℕ → Bool) (ρ : Renaming) (vars vars' : List TypeTree) → RenamesWhere (λ x. P x || Q x) ρ vars vars' → RenamesWhere Q ρ vars vars'
where_right P Q ρ vars vars' h x t p e = h x t (or_right (P x) (Q x) p) e

mutual
  unfolding rename occurs

  pub renamed_where : {s : Setting} {kinds : List Kind} {vars : List TypeTree} {e : TermTree} {t : TypeTree} → HasType s kinds vars e t → (ρ : Renaming) (vars' : List TypeTree) → RenamesWhere (occurs e) ρ vars vars' → HasType s kinds vars' (rename e ρ) t
  renamed_where (h_var {x = x} {t = t} e) ρ vars' h = h_var (h x t (eq-eqb x x refl) e)
  renamed_where (h_global e) ρ vars' h = h_global e
  renamed_where (h_made e) ρ vars' h = h_made e
  renamed_where (h_lam {vars = vars} {a = a} {e = e} d k) ρ vars' h = h_lam (renamed_where d (lift ρ) (a ∷ vars') (where_under (occurs e) ρ vars vars' a h)) k
  renamed_where (h_app {vars = vars} {f = f} {e = a} d e x) ρ vars' h =
      h_app (renamed_where d ρ vars' (where_left (occurs f) (occurs a) ρ vars vars' h)) (renamed_where e ρ vars' (where_right (occurs f) (occurs a) ρ vars vars' h)) x
  renamed_where (h_ty_lam {vars = vars} {e = e} d) ρ vars' h = h_ty_lam (renamed_where d ρ (under_binder vars') (where_under_binder (occurs e) ρ vars vars' h))
  renamed_where (h_ty_app d k x l) ρ vars' h = h_ty_app (renamed_where d ρ vars' h) k x l
  renamed_where {s} {kinds} (h_letrec {vars = vars} {g = g} {e = e} {t = t} {k = k} d l b) ρ vars' h =
      let n = size_of g in
      let π = lift_by n ρ in
      let sides = where_more (declared g) n (occurs_group g) ρ vars vars' (declared_length g) (where_left (λ x. occurs_group g (x + n)) (λ x. occurs e (x + n)) ρ vars vars' h) in
      let body = where_more (declared g) n (occurs e) ρ vars vars' (declared_length g) (where_right (λ x. occurs_group g (x + n)) (λ x. occurs e (x + n)) ρ vars vars' h) in
      let same = sym (declared_renamed g π) in
      h_letrec
      (subst (λ ts. HasType s kinds (with_more ts vars') (rename e π) t) same (renamed_where d π (with_more (declared g) vars') body))
      l
      (subst (λ ts. AreBound s kinds (with_more ts vars') k (rename_group g π)) same (bound_renamed_where b π (with_more (declared g) vars') sides))
  renamed_where (h_con e) ρ vars' h = h_con e
  renamed_where h_prim ρ vars' h = h_prim
  renamed_where (h_lit l) ρ vars' h = h_lit l
  renamed_where {s} {kinds} (h_vec {t = t} {es = es} k d) ρ vars' h =
      subst (λ n. HasType s kinds vars' (vec_lit t (rename_all es ρ)) (vector (nat_lit n) t)) (count_renamed es ρ) (h_vec k (all_have_renamed_where d ρ vars' h))
  renamed_where (h_case {vars = vars} {bound = bound} {q = q} {more = more} {e = on} {f = f} d i j p e k a o n) ρ vars' h =
      let alts = where_right (occurs on) (λ x. occurs f (x + binders q) || occurs_alts more x) ρ vars vars' h in
      let first = where_more bound (binders q) (occurs f) ρ vars vars' (binds p) (where_left (λ x. occurs f (x + binders q)) (occurs_alts more) ρ vars vars' alts) in
      h_case (renamed_where d ρ vars' (where_left (occurs on) (λ x. occurs f (x + binders q) || occurs_alts more x) ρ vars vars' h)) i j p
      (renamed_where e (lift_by (binders q) ρ) (with_more bound vars') first) k a
      (all_give_renamed_where o ρ vars' (where_right (λ x. occurs f (x + binders q)) (occurs_alts more) ρ vars vars' alts))
      (none_hidden_by (alt q f more) (rename_alts (alt q f more) ρ) (sym (patterns_renamed (alt q f more) ρ)) n)

  pub bound_renamed_where : {s : Setting} {kinds : List Kind} {vars : List TypeTree} {k : Kind} {g : Group} → AreBound s kinds vars k g → (ρ : Renaming) (vars' : List TypeTree) → RenamesWhere (occurs_group g) ρ vars vars' → AreBound s kinds vars' k (rename_group g ρ)
  bound_renamed_where none_bound ρ vars' h = none_bound
  bound_renamed_where (bound_and {vars = vars} {e = e} {g = g} j f d x b) ρ vars' h =
      bound_and j f (renamed_where d ρ vars' (where_left (occurs e) (occurs_group g) ρ vars vars' h)) x (bound_renamed_where b ρ vars' (where_right (occurs e) (occurs_group g) ρ vars vars' h))

  pub all_have_renamed_where : {s : Setting} {kinds : List Kind} {vars : List TypeTree} {t : TypeTree} {es : Terms} → AllHave s kinds vars t es → (ρ : Renaming) (vars' : List TypeTree) → RenamesWhere (occurs_all es) ρ vars vars' → AllHave s kinds vars' t (rename_all es ρ)
  all_have_renamed_where none_have ρ vars' h = none_have
  all_have_renamed_where (have_and {vars = vars} {e = e} {es = es} d x ds) ρ vars' h =
      have_and (renamed_where d ρ vars' (where_left (occurs e) (occurs_all es) ρ vars vars' h)) x (all_have_renamed_where ds ρ vars' (where_right (occurs e) (occurs_all es) ρ vars vars' h))

  pub all_give_renamed_where : {s : Setting} {kinds : List Kind} {vars : List TypeTree} {u t : TypeTree} {alts : Alts} → AllGive s kinds vars u t alts → (ρ : Renaming) (vars' : List TypeTree) → RenamesWhere (occurs_alts alts) ρ vars vars' → AllGive s kinds vars' u t (rename_alts alts ρ)
  all_give_renamed_where none_give ρ vars' h = none_give
  all_give_renamed_where (give_and {vars = vars} {bound = bound} {q = q} {e = e} {more = more} p d x ds) ρ vars' h =
      let first = where_more bound (binders q) (occurs e) ρ vars vars' (binds p) (where_left (λ x. occurs e (x + binders q)) (occurs_alts more) ρ vars vars' h) in
      give_and p (renamed_where d (lift_by (binders q) ρ) (with_more bound vars') first) x (all_give_renamed_where ds ρ vars' (where_right (λ x. occurs e (x + binders q)) (occurs_alts more) ρ vars vars' h))
