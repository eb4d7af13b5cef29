-- Which declarations of a program refer to which, and cycles among them.
use Rattle.std.specs.Prelude.{◌≡◌, ℕ, Bool, true, false, ◌||◌, ◌==◌, List, Some}
use Rattle.std.specs.List.{slice_get}
use Rattle.chw_types.specs.declared.declarations.ConDecl.{ConDecl}
use Rattle.chw_types.specs.declared.declarations.Data.{Data}
use Rattle.chw_types.specs.TypeTree.{TypeTree, ty_var, nat_lit, nat_sum, nat_product, domain, scalar, vector, data_of, fun, signal, for_all, TypeTrees, no_types, type_and}
use Rattle.chw_terms.specs.declared.program.Def.{Def}
use Rattle.chw_terms.specs.TermTree.{TermTree, var, global, made, lam, app, ty_lam, ty_app, letrec, con, prim, lit, vec_lit, case_of, Terms, no_terms, term_and, Group, no_bindings, bind, Alts, no_alts, alt}

abbrev mutual
  -- whether a data type stands in a type
  pub names_data : TypeTree → ℕ → Bool
  names_data (ty_var x) d = false
  names_data (nat_lit n) d = false
  names_data (nat_sum a b) d = names_data a d || names_data b d
  names_data (nat_product a b) d = names_data a d || names_data b d
  names_data (domain c) d = false
  names_data (scalar s w) d = names_data w d
  names_data (vector n t) d = names_data n d || names_data t d
  names_data (data_of c ts) d = (c == d) || any_names_data ts d
  names_data (fun a b) d = names_data a d || names_data b d
  names_data (signal c t) d = names_data c d || names_data t d
  names_data (for_all k t) d = names_data t d

  pub any_names_data : TypeTrees → ℕ → Bool
  any_names_data no_types d = false
  any_names_data (type_and t ts) d = names_data t d || any_names_data ts d

abbrev mutual
  -- whether a definition stands in a term
  pub names_def : TermTree → ℕ → Bool
  names_def (var x) d = false
  names_def (global c) d = c == d
  names_def (made m) d = false
  names_def (lam t e) d = names_def e d
  names_def (app f a) d = names_def f d || names_def a d
  names_def (ty_lam k e) d = names_def e d
  names_def (ty_app f t) d = names_def f d
  names_def (letrec g e) d = group_names_def g d || names_def e d
  names_def (con c) d = false
  names_def (prim p) d = false
  names_def (lit s bs) d = false
  names_def (vec_lit t es) d = any_names_def es d
  names_def (case_of s alts) d = names_def s d || alts_name_def alts d

  pub any_names_def : Terms → ℕ → Bool
  any_names_def no_terms d = false
  any_names_def (term_and e es) d = names_def e d || any_names_def es d

  pub group_names_def : Group → ℕ → Bool
  group_names_def no_bindings d = false
  group_names_def (bind t e g) d = names_def e d || group_names_def g d

  pub alts_name_def : Alts → ℕ → Bool
  alts_name_def no_alts d = false
  alts_name_def (alt q e more) d = names_def e d || alts_name_def more d

-- a field of a data type: of one of its constructors, in one of its places
pub record IsField (it : Data) (t : TypeTree) : Type 0 where
  pub con : ℕ
  pub of : ConDecl
  pub is_con : slice_get it.cons con ≡ Some of
  pub at : ℕ
  pub is_field : slice_get of.fields at ≡ Some t

-- one data type stands in a field of another; the data types are told by their numbers
abbrev pub DataRefers : List Data → ℕ → ℕ → Type 0
DataRefers datas from to =
    (it : Data) × (t : TypeTree) × (slice_get datas from ≡ Some it) × IsField it t × (names_data t to ≡ true)

-- one definition stands in the body of another
abbrev pub DefRefers : List Def → ℕ → ℕ → Type 0
DefRefers defs from to = (it : Def) × (slice_get defs from ≡ Some it) × (names_def it.body to ≡ true)
