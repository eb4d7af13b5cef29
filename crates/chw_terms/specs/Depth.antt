-- How deep terms and types nest.
use Rattle.std.specs.Prelude.{ℕ, suc, max}
use Rattle.chw_types.specs.TypeTree.{TypeTree, ty_var, nat_lit, nat_sum, nat_product, domain, scalar, vector, data_of, fun, signal, for_all, TypeTrees, no_types, type_and}
use Rattle.chw_terms.specs.TermTree.{TermTree, var, global, made, lam, app, ty_lam, ty_app, letrec, con, prim, lit, vec_lit, case_of, Terms, no_terms, term_and, Group, no_bindings, bind, Alts, no_alts, alt}

-- the depth of a type: one more than its deepest part, where it has parts. A natural counts 1 however it is written, so that types that
-- are the same are equally deep.
unfoldable mutual
  pub type_depth : TypeTree → ℕ
  type_depth (ty_var x) = 1
  type_depth (nat_lit n) = 1
  type_depth (nat_sum a b) = 1
  type_depth (nat_product a b) = 1
  type_depth (domain d) = 1
  type_depth (scalar s w) = suc (type_depth w)
  type_depth (vector n t) = suc (max (type_depth n) (type_depth t))
  type_depth (data_of d ts) = suc (types_depth ts)
  type_depth (fun a b) = suc (max (type_depth a) (type_depth b))
  type_depth (signal d t) = suc (max (type_depth d) (type_depth t))
  type_depth (for_all k t) = suc (type_depth t)

  -- the depth of the deepest, 0 where there is none
  pub types_depth : TypeTrees → ℕ
  types_depth no_types = 0
  types_depth (type_and t ts) = max (type_depth t) (types_depth ts)

-- what the function of an application adds to the parts of the spine, by the depth of its deepest part: where it is an application
-- itself its parts, and else itself, the head
abbrev pub in_spine : TermTree → ℕ → ℕ
in_spine (app f a) deepest = deepest
in_spine (ty_app f t) deepest = deepest
in_spine _ deepest = suc deepest

unfoldable mutual
  -- the depth of the deepest part of a term, 0 where there is none. The parts of an application are those of its whole spine: the head
  -- and all arguments, terms and types.
  pub parts_depth : TermTree → ℕ
  parts_depth (var x) = 0
  parts_depth (global d) = 0
  parts_depth (made m) = 0
  parts_depth (lam t e) = max (type_depth t) (suc (parts_depth e))
  parts_depth (app f a) = max (in_spine f (parts_depth f)) (suc (parts_depth a))
  parts_depth (ty_lam k e) = suc (parts_depth e)
  parts_depth (ty_app f t) = max (in_spine f (parts_depth f)) (type_depth t)
  parts_depth (letrec g e) = max (group_depth g) (suc (parts_depth e))
  parts_depth (con c) = 0
  parts_depth (prim p) = 0
  parts_depth (lit s bs) = 0
  parts_depth (vec_lit t es) = max (type_depth t) (terms_depth es)
  parts_depth (case_of s alts) = max (suc (parts_depth s)) (alts_depth alts)

  pub terms_depth : Terms → ℕ
  terms_depth no_terms = 0
  terms_depth (term_and e es) = max (suc (parts_depth e)) (terms_depth es)

  pub group_depth : Group → ℕ
  group_depth no_bindings = 0
  group_depth (bind t e g) = max (max (type_depth t) (suc (parts_depth e))) (group_depth g)

  pub alts_depth : Alts → ℕ
  alts_depth no_alts = 0
  alts_depth (alt q e more) = max (suc (parts_depth e)) (alts_depth more)

-- the depth of a term: one more than its deepest part, where it has parts
abbrev pub depth : TermTree → ℕ
depth e = suc (parts_depth e)
