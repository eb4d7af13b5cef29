-- Types are kept where variables are renamed.
use Rattle.std.proofs.Common.{◌≡◌, ℕ, suc, zero, ◌+◌, refl, sym, ap, ◌∙◌, subst, List, [], ◌∷◌, ◌++◌, length, reverse, arith}
use Rattle.std.specs.Prelude.{Some}
use Rattle.std.specs.List.{slice_get}
use Rattle.std.proofs.lemmas.List.{length-reverse}
use Rattle.chw_types.specs.declared.kind.Kind.{Kind}
use Rattle.chw_types.specs.TypeTree.{TypeTree, nat_lit, vector}
use Rattle.chw_types.specs.TypeMoves.{Renaming, lift, lift_by, raised, shift}
use Rattle.chw_terms.specs.declared.term.Pattern.{Pattern}
use Rattle.chw_terms.specs.TermTree.{TermTree, vec_lit, Terms, no_terms, term_and, Group, no_bindings, bind, Alts, no_alts, alt, binders, size_of}
use Rattle.chw_terms.specs.TermMoves.{rename, rename_all, rename_group, rename_alts}
use Rattle.chw_typing.specs.Scopes.{Setting, under_binder, with_more, declared}
use Rattle.chw_typing.specs.Alternatives.{HidesNone, NoneHidden}
use Rattle.chw_typing.specs.Typing.{count, HasType, h_var, h_global, h_made, h_lam, h_app, h_ty_lam, h_ty_app, h_letrec, h_con, h_prim, h_lit, h_vec, h_case, AreBound, none_bound, bound_and, AllHave, none_have, have_and, AllGive, none_give, give_and}
use Rattle.chw_typing.specs.Laws.{Renames}
use Rattle.chw_typing.proofs.Lists.{found_in_map, found_before_map}
use Rattle.chw_typing.proofs.Patterns.{binds}

pub renames_under : (ρ : Renaming) (vars vars' : List TypeTree) (t : TypeTree) → Renames ρ vars vars' → Renames (lift ρ) (t ∷ vars) (t ∷ vars')
renames_under ρ vars vars' t h zero u e = e
renames_under ρ vars vars' t h (suc x) u e = h x u e

renames_append : (new : List TypeTree) (ρ : Renaming) (vars vars' : List TypeTree) → Renames ρ vars vars' → Renames (lift_by (length new) ρ) (new ++ vars) (new ++ vars')
renames_append [] ρ vars vars' h = h
renames_append (t ∷ new) ρ vars vars' h = renames_under (lift_by (length new) ρ) (new ++ vars) (new ++ vars') t (renames_append new ρ vars vars' h)

-- under so many binders as there are new variables
pub renames_more : (new : List TypeTree) (n : ℕ) (ρ : Renaming) (vars vars' : List TypeTree) → length new ≡ n → Renames ρ vars vars' → Renames (lift_by n ρ) (with_more new vars) (with_more new vars')
renames_more new n ρ vars vars' l h =
    subst (λ m. Renames (lift_by m ρ) (with_more new vars) (with_more new vars')) (length-reverse new ∙ l) (renames_append (reverse new) ρ vars vars' h)

renames_under_binder : (ρ : Renaming) (vars vars' : List TypeTree) → Renames ρ vars vars' → Renames ρ (under_binder vars) (under_binder vars')
renames_under_binder ρ vars vars' h x t e =
    let at = found_before_map (λ t. shift t 0 1) vars x t e in
    subst (λ u. slice_get (under_binder vars') (ρ x) ≡ Some u) at.2 (found_in_map (λ t. shift t 0 1) vars' (ρ x) at.0 (h x at.0 at.1))

pub declared_length : (g : Group) → length (declared g) ≡ size_of g
declared_length no_bindings = refl
declared_length (bind t e g) = ap suc (declared_length g)

pub declared_renamed : (g : Group) (ρ : Renaming) → declared (rename_group g ρ) ≡ declared g
unfolding rename_group
declared_renamed no_bindings ρ = refl
declared_renamed (bind t e g) ρ = ap (λ ts. t ∷ ts) (declared_renamed g ρ)

pub count_renamed : (es : Terms) (ρ : Renaming) → count (rename_all es ρ) ≡ count es
unfolding rename_all
count_renamed no_terms ρ = refl
count_renamed (term_and e es) ρ = ap suc (count_renamed es ρ)

hides_none_renamed : (q : Pattern) (alts : Alts) (ρ : Renaming) → HidesNone q alts → HidesNone q (rename_alts alts ρ)
unfolding rename_alts
hides_none_renamed q no_alts ρ h = tt
hides_none_renamed q (alt r e more) ρ h = (h.0, hides_none_renamed q more ρ h.1)

none_hidden_renamed : (alts : Alts) (ρ : Renaming) → NoneHidden alts → NoneHidden (rename_alts alts ρ)
unfolding rename_alts
none_hidden_renamed no_alts ρ h = tt
none_hidden_renamed (alt q e more) ρ h = (hides_none_renamed q more ρ h.0, none_hidden_renamed more ρ h.1)

mutual
  unfolding rename

  pub type_renamed : {s : Setting} {kinds : List Kind} {vars : List TypeTree} {e : TermTree} {t : TypeTree} → HasType s kinds vars e t → (ρ : Renaming) (vars' : List TypeTree) → Renames ρ vars vars' → HasType s kinds vars' (rename e ρ) t
  type_renamed (h_var {x = x} {t = t} e) ρ vars' h = h_var (h x t e)
  type_renamed (h_global e) ρ vars' h = h_global e
  type_renamed (h_made e) ρ vars' h = h_made e
  type_renamed (h_lam {vars = vars} {a = a} d k) ρ vars' h = h_lam (type_renamed d (lift ρ) (a ∷ vars') (renames_under ρ vars vars' a h)) k
  type_renamed (h_app d e x) ρ vars' h = h_app (type_renamed d ρ vars' h) (type_renamed e ρ vars' h) x
  type_renamed (h_ty_lam {vars = vars} d) ρ vars' h = h_ty_lam (type_renamed d ρ (under_binder vars') (renames_under_binder ρ vars vars' h))
  type_renamed (h_ty_app d k x l) ρ vars' h = h_ty_app (type_renamed d ρ vars' h) k x l
  type_renamed {s} {kinds} (h_letrec {vars = vars} {g = g} {e = e} {t = t} {k = k} d l b) ρ vars' h =
      let π = lift_by (size_of g) ρ in
      let under = renames_more (declared g) (size_of g) ρ vars vars' (declared_length g) h in
      let same = sym (declared_renamed g π) in
      h_letrec
      (subst (λ ts. HasType s kinds (with_more ts vars') (rename e π) t) same (type_renamed d π (with_more (declared g) vars') under))
      l
      (subst (λ ts. AreBound s kinds (with_more ts vars') k (rename_group g π)) same (bound_renamed b π (with_more (declared g) vars') under))
  type_renamed (h_con e) ρ vars' h = h_con e
  type_renamed h_prim ρ vars' h = h_prim
  type_renamed (h_lit l) ρ vars' h = h_lit l
  type_renamed {s} {kinds} (h_vec {t = t} {es = es} k d) ρ vars' h =
      subst (λ n. HasType s kinds vars' (vec_lit t (rename_all es ρ)) (vector (nat_lit n) t)) (count_renamed es ρ) (h_vec k (all_have_renamed d ρ vars' h))
  type_renamed (h_case {vars = vars} {bound = bound} {q = q} {more = more} {f = f} d i j p e k a o n) ρ vars' h =
      h_case (type_renamed d ρ vars' h) i j p (type_renamed e (lift_by (binders q) ρ) (with_more bound vars') (renames_more bound (binders q) ρ vars vars' (binds p) h)) k a (all_give_renamed o ρ vars' h) (none_hidden_renamed (alt q f more) ρ n)

  pub bound_renamed : {s : Setting} {kinds : List Kind} {vars : List TypeTree} {k : Kind} {g : Group} → AreBound s kinds vars k g → (ρ : Renaming) (vars' : List TypeTree) → Renames ρ vars vars' → AreBound s kinds vars' k (rename_group g ρ)
  bound_renamed none_bound ρ vars' h = none_bound
  bound_renamed (bound_and j f d x b) ρ vars' h = bound_and j f (type_renamed d ρ vars' h) x (bound_renamed b ρ vars' h)

  pub all_have_renamed : {s : Setting} {kinds : List Kind} {vars : List TypeTree} {t : TypeTree} {es : Terms} → AllHave s kinds vars t es → (ρ : Renaming) (vars' : List TypeTree) → Renames ρ vars vars' → AllHave s kinds vars' t (rename_all es ρ)
  all_have_renamed none_have ρ vars' h = none_have
  all_have_renamed (have_and d x ds) ρ vars' h = have_and (type_renamed d ρ vars' h) x (all_have_renamed ds ρ vars' h)

  pub all_give_renamed : {s : Setting} {kinds : List Kind} {vars : List TypeTree} {u t : TypeTree} {alts : Alts} → AllGive s kinds vars u t alts → (ρ : Renaming) (vars' : List TypeTree) → Renames ρ vars vars' → AllGive s kinds vars' u t (rename_alts alts ρ)
  all_give_renamed none_give ρ vars' h = none_give
  all_give_renamed (give_and {vars = vars} {bound = bound} {q = q} p d x ds) ρ vars' h =
      give_and p (type_renamed d (lift_by (binders q) ρ) (with_more bound vars') (renames_more bound (binders q) ρ vars vars' (binds p) h)) x (all_give_renamed ds ρ vars' h)

renames_outside : (new outer : List TypeTree) → Renames (raised 0 (length new)) outer (new ++ outer)
renames_outside [] outer x t e = subst (λ y. slice_get outer y ≡ Some t) (plus x) e
  where
    plus : (x : ℕ) → x ≡ x + 0
    plus x = omega arith
renames_outside (u ∷ new) outer x t e = subst (λ y. slice_get (u ∷ new ++ outer) y ≡ Some t) (plus x) (renames_outside new outer x t e)
  where
    plus : (x : ℕ) → suc (x + length new) ≡ x + suc (length new)
    plus x = omega arith

-- what a shift makes room for
pub renames_shift : (inner new outer : List TypeTree) → Renames (raised (length inner) (length new)) (inner ++ outer) (inner ++ new ++ outer)
renames_shift [] new outer = renames_outside new outer
renames_shift (t ∷ inner) new outer = renames_under (raised (length inner) (length new)) (inner ++ outer) (inner ++ new ++ outer) t (renames_shift inner new outer)
