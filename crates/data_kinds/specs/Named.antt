-- The data types that stand in types and the definitions that stand in terms, in the order of the text. What stands at several places
-- is listed as often.
use Rattle.std.specs.Prelude.{ℕ, List, [], ◌∷◌, ◌++◌}
use Rattle.std.specs.List.{flat_map}
use Rattle.chw_types.specs.declared.declarations.ConDecl.{ConDecl}
use Rattle.chw_types.specs.declared.declarations.Data.{Data}
use Rattle.chw_types.specs.TypeTree.{TypeTree, ty_var, nat_lit, nat_sum, nat_product, domain, scalar, vector, data_of, fun, signal, for_all, TypeTrees, no_types, type_and}
use Rattle.chw_terms.specs.declared.program.Def.{Def}
use Rattle.chw_terms.specs.declared.term.Arg.{Arg}
use Rattle.chw_terms.specs.declared.term.Arg.TheVariants.{OfTerm, OfType}
use Rattle.chw_terms.specs.TermTree.{TermTree, var, global, made, lam, app, ty_lam, ty_app, letrec, con, prim, lit, vec_lit, case_of, Terms, no_terms, term_and, Group, no_bindings, bind, Alts, no_alts, alt}

unfoldable mutual
  -- the data types in a type
  pub datas_in : TypeTree → List ℕ
  datas_in (ty_var x) = []
  datas_in (nat_lit n) = []
  datas_in (nat_sum a b) = datas_in a ++ datas_in b
  datas_in (nat_product a b) = datas_in a ++ datas_in b
  datas_in (domain c) = []
  datas_in (scalar s w) = datas_in w
  datas_in (vector n t) = datas_in n ++ datas_in t
  datas_in (data_of d ts) = d ∷ datas_in_all ts
  datas_in (fun a b) = datas_in a ++ datas_in b
  datas_in (signal c t) = datas_in c ++ datas_in t
  datas_in (for_all k t) = datas_in t

  pub datas_in_all : TypeTrees → List ℕ
  datas_in_all no_types = []
  datas_in_all (type_and t ts) = datas_in t ++ datas_in_all ts

-- the data types in the fields of a constructor
abbrev pub con_datas : ConDecl → List ℕ
con_datas c = flat_map datas_in c.fields

-- the data types in the fields of a data type
abbrev pub field_datas : Data → List ℕ
field_datas it = flat_map con_datas it.cons

unfoldable mutual
  -- the definitions in a term
  pub defs_in : TermTree → List ℕ
  defs_in (var x) = []
  defs_in (global d) = d ∷ []
  defs_in (made m) = []
  defs_in (lam t e) = defs_in e
  defs_in (app f a) = defs_in f ++ defs_in a
  defs_in (ty_lam k e) = defs_in e
  defs_in (ty_app f t) = defs_in f
  defs_in (letrec g e) = defs_in_group g ++ defs_in e
  defs_in (con c) = []
  defs_in (prim p) = []
  defs_in (lit s bs) = []
  defs_in (vec_lit t es) = defs_in_all es
  defs_in (case_of s alts) = defs_in s ++ defs_in_alts alts

  pub defs_in_all : Terms → List ℕ
  defs_in_all no_terms = []
  defs_in_all (term_and e es) = defs_in e ++ defs_in_all es

  pub defs_in_group : Group → List ℕ
  defs_in_group no_bindings = []
  defs_in_group (bind t e g) = defs_in e ++ defs_in_group g

  pub defs_in_alts : Alts → List ℕ
  defs_in_alts no_alts = []
  defs_in_alts (alt q e more) = defs_in e ++ defs_in_alts more

-- the definitions in an argument
abbrev pub arg_defs : Arg → List ℕ
arg_defs (OfTerm e) = defs_in e
arg_defs (OfType t) = []

-- the definitions in the body of one
abbrev pub body_defs : Def → List ℕ
body_defs it = defs_in it.body
