-- A typed term depends only on what is put for the made definitions that there are.
use Rattle.std.specs.Prelude.{slice_get}
use Rattle.std.proofs.Common.{◌≡◌, ℕ, refl, ap, List, Some}
use Rattle.chw_types.specs.declared.kind.Kind.{Kind}
use Rattle.chw_types.specs.TypeTree.{TypeTree}
use Rattle.chw_terms.specs.TermTree.{TermTree, lam, app, ty_lam, ty_app, letrec, vec_lit, case_of, Terms, term_and, Group, bind, Alts, alt}
use Rattle.chw_typing.specs.Scopes.{Setting}
use Rattle.chw_typing.specs.Typing.{HasType, h_var, h_global, h_made, h_lam, h_app, h_ty_lam, h_ty_app, h_letrec, h_con, h_prim, h_lit, h_vec, h_case, AreBound, none_bound, bound_and, AllHave, none_have, have_and, AllGive, none_give, give_and}
use Rattle.rewriting.specs.Origins.{with_origins, with_origins_all, with_origins_group, with_origins_alts}

-- one term for each made definition of the setting
abbrev pub AgreeIn : Setting → (ℕ → TermTree) → (ℕ → TermTree) → Type 0
AgreeIn s o u = (m : ℕ) (t : TypeTree) → slice_get s.made m ≡ Some t → o m ≡ u m

mutual
  unfolding with_origins

  pub origins_agree : {s : Setting} {kinds : List Kind} {vars : List TypeTree} {e : TermTree} {t : TypeTree} → HasType s kinds vars e t → (o u : ℕ → TermTree) → AgreeIn s o u → with_origins o e ≡ with_origins u e
  origins_agree (h_var e) o u h = refl
  origins_agree (h_global e) o u h = refl
  origins_agree (h_made {m = m} {t = t} e) o u h = h m t e
  origins_agree (h_lam {a = a} d l) o u h = ap (lam a) (origins_agree d o u h)
  origins_agree (h_app d e x) o u h = λ i. app (origins_agree d o u h i) (origins_agree e o u h i)
  origins_agree (h_ty_lam {j = j} d) o u h = ap (ty_lam j) (origins_agree d o u h)
  origins_agree (h_ty_app {a = a} d l x m) o u h = ap (λ f. ty_app f a) (origins_agree d o u h)
  origins_agree (h_letrec d l bs) o u h = λ i. letrec (group_agrees bs o u h i) (origins_agree d o u h i)
  origins_agree (h_con e) o u h = refl
  origins_agree h_prim o u h = refl
  origins_agree (h_lit l) o u h = refl
  origins_agree (h_vec {t = t} k d) o u h = ap (vec_lit t) (elements_agree d o u h)
  origins_agree (h_case {q = q} d look l b e m a rest n) o u h = λ i. case_of (origins_agree d o u h i) (alt q (origins_agree e o u h i) (alts_agree rest o u h i))

  group_agrees : {s : Setting} {kinds : List Kind} {vars : List TypeTree} {k : Kind} {g : Group} → AreBound s kinds vars k g → (o u : ℕ → TermTree) → AgreeIn s o u → with_origins_group o g ≡ with_origins_group u g
  group_agrees none_bound o u h = refl
  group_agrees (bound_and {t = t} l f d x b) o u h = λ i. bind t (origins_agree d o u h i) (group_agrees b o u h i)

  elements_agree : {s : Setting} {kinds : List Kind} {vars : List TypeTree} {t : TypeTree} {es : Terms} → AllHave s kinds vars t es → (o u : ℕ → TermTree) → AgreeIn s o u → with_origins_all o es ≡ with_origins_all u es
  elements_agree none_have o u h = refl
  elements_agree (have_and d x ds) o u h = λ i. term_and (origins_agree d o u h i) (elements_agree ds o u h i)

  alts_agree : {s : Setting} {kinds : List Kind} {vars : List TypeTree} {b t : TypeTree} {alts : Alts} → AllGive s kinds vars b t alts → (o u : ℕ → TermTree) → AgreeIn s o u → with_origins_alts o alts ≡ with_origins_alts u alts
  alts_agree none_give o u h = refl
  alts_agree (give_and {q = q} b d z ds) o u h = λ i. alt q (origins_agree d o u h i) (alts_agree ds o u h i)
