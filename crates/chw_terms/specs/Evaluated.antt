-- Closed naturals as numbers.
use Rattle.std.specs.Prelude.{ℕ, ◌+◌, ◌*◌, Option, Some, None}
use Rattle.chw_types.specs.TypeTree.{TypeTree, ty_var, nat_lit, nat_sum, nat_product, domain, scalar, vector, data_of, fun, signal, for_all, TypeTrees, no_types, type_and}
use Rattle.chw_types.specs.Polynomials.{ended}
use Rattle.chw_terms.specs.TermTree.{TermTree, var, global, made, lam, app, ty_lam, ty_app, letrec, con, prim, lit, vec_lit, case_of, Terms, no_terms, term_and, Group, no_bindings, bind, Alts, no_alts, alt}
use Rattle.chw_terms.specs.TypesMoved.{put_types}

-- the number that a numeral means
abbrev pub numeral : TypeTree → Option ℕ
numeral (nat_lit n) = Some n
numeral _ = None

-- the numeral of what an operation gives on two numbers, which ends at the greatest natural; where one is missing, this type
abbrev pub numeral_or : (ℕ → ℕ → ℕ) → Option ℕ → Option ℕ → TypeTree → TypeTree
numeral_or f (Some m) (Some n) t = nat_lit (ended (f m n))
numeral_or f (Some m) None t = t
numeral_or f None n t = t

-- the sum of two naturals, a numeral where both are
abbrev pub added : TypeTree → TypeTree → TypeTree
added a b = numeral_or (λ m n. m + n) (numeral a) (numeral b) (nat_sum a b)

-- the product of two naturals, a numeral where both are
abbrev pub multiplied_by : TypeTree → TypeTree → TypeTree
multiplied_by a b = numeral_or (λ m n. m * n) (numeral a) (numeral b) (nat_product a b)

-- the type of the same form with these two parts, a numeral if it is a natural and both parts are numerals; a signal for a type
-- without two parts
abbrev pub pair_evaluated : TypeTree → TypeTree → TypeTree → TypeTree
pair_evaluated (nat_sum c d) a b = added a b
pair_evaluated (nat_product c d) a b = multiplied_by a b
pair_evaluated (vector c d) a b = vector a b
pair_evaluated (fun c d) a b = fun a b
pair_evaluated _ a b = signal a b

unfoldable mutual
  -- each natural without variables is its numeral
  pub evaluated : TypeTree → TypeTree
  evaluated (ty_var x) = ty_var x
  evaluated (nat_lit n) = nat_lit n
  evaluated (nat_sum a b) = added (evaluated a) (evaluated b)
  evaluated (nat_product a b) = multiplied_by (evaluated a) (evaluated b)
  evaluated (domain d) = domain d
  evaluated (scalar s w) = scalar s (evaluated w)
  evaluated (vector n t) = vector (evaluated n) (evaluated t)
  evaluated (data_of d ts) = data_of d (evaluated_all ts)
  evaluated (fun a b) = fun (evaluated a) (evaluated b)
  evaluated (signal d t) = signal (evaluated d) (evaluated t)
  evaluated (for_all k t) = for_all k (evaluated t)

  pub evaluated_all : TypeTrees → TypeTrees
  evaluated_all no_types = no_types
  evaluated_all (type_and t ts) = type_and (evaluated t) (evaluated_all ts)

unfoldable mutual
  -- the closed naturals of all types of a term
  pub evaluated_in : TermTree → TermTree
  evaluated_in (var x) = var x
  evaluated_in (global d) = global d
  evaluated_in (made m) = made m
  evaluated_in (lam t e) = lam (evaluated t) (evaluated_in e)
  evaluated_in (app f a) = app (evaluated_in f) (evaluated_in a)
  evaluated_in (ty_lam k e) = ty_lam k (evaluated_in e)
  evaluated_in (ty_app f t) = ty_app (evaluated_in f) (evaluated t)
  evaluated_in (letrec g e) = letrec (evaluated_in_group g) (evaluated_in e)
  evaluated_in (con c) = con c
  evaluated_in (prim p) = prim p
  evaluated_in (lit s bs) = lit s bs
  evaluated_in (vec_lit t es) = vec_lit (evaluated t) (evaluated_in_all es)
  evaluated_in (case_of s alts) = case_of (evaluated_in s) (evaluated_in_alts alts)

  pub evaluated_in_all : Terms → Terms
  evaluated_in_all no_terms = no_terms
  evaluated_in_all (term_and e es) = term_and (evaluated_in e) (evaluated_in_all es)

  pub evaluated_in_group : Group → Group
  evaluated_in_group no_bindings = no_bindings
  evaluated_in_group (bind t e g) = bind (evaluated t) (evaluated_in e) (evaluated_in_group g)

  pub evaluated_in_alts : Alts → Alts
  evaluated_in_alts no_alts = no_alts
  evaluated_in_alts (alt q e more) = alt q (evaluated_in e) (evaluated_in_alts more)

-- a type put for the outermost type variable, and all closed naturals evaluated
abbrev pub put_type_in : TermTree → TypeTree → TermTree
put_type_in e a = evaluated_in (put_types e 0 a)
