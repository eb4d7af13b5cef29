-- A term that is typed without type variables has none.
use Rattle.std.proofs.Common.{◌≡◌, ap, refl, ℕ, zero, suc, List, [], ◌∷◌, Some}
use Rattle.std.specs.List.{slice_get}
use Rattle.chw_types.specs.declared.kind.Kind.{Kind}
use Rattle.chw_types.specs.declared.declarations.Data.{Data}
use Rattle.chw_types.specs.Kinds.{KindOf, kind_var, kind_nat, kind_sum, kind_product, kind_domain, kind_scalar, kind_vector, kind_data, kind_fun, kind_signal, kind_for_all, KindsOf, no_kinds, kind_and}
use Rattle.chw_types.specs.TypeMoves.{Renaming, lift, rename as rename_type, rename_all as rename_all_types}
use Rattle.chw_types.specs.TypeTree.{TypeTree, TypeTrees, ty_var, nat_sum, nat_product, scalar, vector, data_of, fun, signal, for_all, type_and}
use Rattle.chw_terms.specs.TermTree.{TermTree, lam, app, ty_lam, ty_app, letrec, vec_lit, case_of, Terms, term_and, Group, bind, Alts, alt}
use Rattle.chw_terms.specs.TypesMoved.{rename_types, rename_types_all, rename_types_group, rename_types_alts}
use Rattle.chw_typing.proofs.Kinded.{function_parts}
use Rattle.chw_typing.specs.Scopes.{Setting}
use Rattle.chw_typing.specs.Typing.{HasType, h_var, h_global, h_made, h_lam, h_app, h_ty_lam, h_ty_app, h_letrec, h_con, h_prim, h_lit, h_vec, h_case, AreBound, none_bound, bound_and, AllHave, none_have, have_and, AllGive, none_give, give_and}
use Rattle.normal_forms.specs.Parts.{HasClosedTypes}

-- the renaming keeps each type variable in scope
abbrev Keeps : Renaming → List Kind → Type 0
Keeps ρ kinds = (x : ℕ) (k : Kind) → slice_get kinds x ≡ Some k → ρ x ≡ x

keeps_under : (ρ : Renaming) (kinds : List Kind) (j : Kind) → Keeps ρ kinds → Keeps (lift ρ) (j ∷ kinds)
keeps_under ρ kinds j h zero k e = refl
keeps_under ρ kinds j h (suc x) k e = ap suc (h x k e)

mutual
  unfolding rename_type

  type_kept : {datas : List Data} {domains : ℕ} {scope : List Kind} {t : TypeTree} {k : Kind} → KindOf datas domains scope t k → (ρ : Renaming) → Keeps ρ scope → rename_type t ρ ≡ t
  type_kept (kind_var {x = x} {k = k} e) ρ h = ap ty_var (h x k e)
  type_kept kind_nat ρ h = refl
  type_kept (kind_sum d e small) ρ h = λ i. nat_sum (type_kept d ρ h i) (type_kept e ρ h i)
  type_kept (kind_product d e small) ρ h = λ i. nat_product (type_kept d ρ h i) (type_kept e ρ h i)
  type_kept (kind_domain l) ρ h = refl
  type_kept (kind_scalar {s = s} d) ρ h = ap (scalar s) (type_kept d ρ h)
  type_kept (kind_vector d e o) ρ h = λ i. vector (type_kept d ρ h i) (type_kept e ρ h i)
  type_kept (kind_data {d = n} e ds) ρ h = ap (data_of n) (types_kept ds ρ h)
  type_kept (kind_fun d e o) ρ h = λ i. fun (type_kept d ρ h i) (type_kept e ρ h i)
  type_kept (kind_signal d e) ρ h = λ i. signal (type_kept d ρ h i) (type_kept e ρ h i)
  type_kept (kind_for_all {scope = scope} {j = j} d o) ρ h = ap (for_all j) (type_kept d (lift ρ) (keeps_under ρ scope j h))

  types_kept : {datas : List Data} {domains : ℕ} {scope : List Kind} {ts : TypeTrees} {ks : List Kind} → KindsOf datas domains scope ts ks → (ρ : Renaming) → Keeps ρ scope → rename_all_types ts ρ ≡ ts
  types_kept no_kinds ρ h = refl
  types_kept (kind_and d ds) ρ h = λ i. type_and (type_kept d ρ h i) (types_kept ds ρ h i)

mutual
  unfolding rename_types

  term_kept : {s : Setting} {kinds : List Kind} {vars : List TypeTree} {e : TermTree} {t : TypeTree} → HasType s kinds vars e t → (ρ : Renaming) → Keeps ρ kinds → rename_types e ρ ≡ e
  term_kept (h_var is) ρ h = refl
  term_kept (h_global is) ρ h = refl
  term_kept (h_made is) ρ h = refl
  term_kept (h_lam d l) ρ h = let parts = function_parts l in λ i. lam (type_kept parts.1 ρ h i) (term_kept d ρ h i)
  term_kept (h_app d c x) ρ h = λ i. app (term_kept d ρ h i) (term_kept c ρ h i)
  term_kept {kinds = kinds} (h_ty_lam {j = j} d) ρ h = ap (ty_lam j) (term_kept d (lift ρ) (keeps_under ρ kinds j h))
  term_kept (h_ty_app d l x m) ρ h = λ i. ty_app (term_kept d ρ h i) (type_kept l ρ h i)
  term_kept (h_letrec d l bs) ρ h = λ i. letrec (group_kept bs ρ h i) (term_kept d ρ h i)
  term_kept (h_con is) ρ h = refl
  term_kept h_prim ρ h = refl
  term_kept (h_lit l) ρ h = refl
  term_kept (h_vec l ds) ρ h = λ i. vec_lit (type_kept l.has ρ h i) (terms_kept ds ρ h i)
  term_kept (h_case {q = q} d looked l b c m allows o n) ρ h = λ i. case_of (term_kept d ρ h i) (alt q (term_kept c ρ h i) (alts_kept o ρ h i))

  group_kept : {s : Setting} {kinds : List Kind} {vars : List TypeTree} {k : Kind} {g : Group} → AreBound s kinds vars k g → (ρ : Renaming) → Keeps ρ kinds → rename_types_group g ρ ≡ g
  group_kept none_bound ρ h = refl
  group_kept (bound_and l m d x more) ρ h = λ i. bind (type_kept l ρ h i) (term_kept d ρ h i) (group_kept more ρ h i)

  terms_kept : {s : Setting} {kinds : List Kind} {vars : List TypeTree} {t : TypeTree} {es : Terms} → AllHave s kinds vars t es → (ρ : Renaming) → Keeps ρ kinds → rename_types_all es ρ ≡ es
  terms_kept none_have ρ h = refl
  terms_kept (have_and d x more) ρ h = λ i. term_and (term_kept d ρ h i) (terms_kept more ρ h i)

  alts_kept : {s : Setting} {kinds : List Kind} {vars : List TypeTree} {u t : TypeTree} {alts : Alts} → AllGive s kinds vars u t alts → (ρ : Renaming) → Keeps ρ kinds → rename_types_alts alts ρ ≡ alts
  alts_kept none_give ρ h = refl
  alts_kept (give_and {q = q} b d x more) ρ h = λ i. alt q (term_kept d ρ h i) (alts_kept more ρ h i)

pub closed_types : (s : Setting) (vars : List TypeTree) (e : TermTree) (t : TypeTree) → HasType s [] vars e t → HasClosedTypes e
closed_types s vars e t d = λ ρ. term_kept d ρ (λ x k is. absurd cc)
