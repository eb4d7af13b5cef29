-- Types whose naturals have no parts that don't matter to their polynomials.
use Rattle.std.specs.Prelude.{ℕ, ◌==◌, Bool, false, ◌||◌, if◌then◌else◌}
use Rattle.chw_types.specs.TypeTree.{TypeTree, ty_var, nat_lit, nat_sum, nat_product, domain, scalar, vector, data_of, fun, signal, for_all, TypeTrees, no_types, type_and}
use Rattle.chw_types.specs.Polynomials.{is_natural}

-- the type is this numeral
abbrev pub is_numeral : ℕ → TypeTree → Bool
is_numeral n (nat_lit m) = m == n
is_numeral n _ = false

-- a sum, but without a part that is 0
abbrev pub plus : TypeTree → TypeTree → TypeTree
plus a b = if is_numeral 0 a then b else if is_numeral 0 b then a else nat_sum a b

-- a product, but 0 where a part is 0, and without a part that is 1
abbrev pub by : TypeTree → TypeTree → TypeTree
by a b = if is_numeral 0 a || is_numeral 1 b then a else if is_numeral 0 b || is_numeral 1 a then b else nat_product a b

-- a natural so written, from its parts on
unfoldable pub reduced : TypeTree → TypeTree
reduced (nat_sum a b) = plus (reduced a) (reduced b)
reduced (nat_product a b) = by (reduced a) (reduced b)
reduced t = t

-- where it is a natural
abbrev pub reduced_if : Bool → TypeTree → TypeTree
reduced_if natural t = if natural then reduced t else t

unfoldable mutual
  -- the type with each of its naturals so written
  pub without_zeros : TypeTree → TypeTree
  without_zeros (ty_var x) = ty_var x
  without_zeros (nat_lit n) = nat_lit n
  without_zeros (nat_sum a b) = reduced_if (is_natural (nat_sum a b)) (nat_sum a b)
  without_zeros (nat_product a b) = reduced_if (is_natural (nat_product a b)) (nat_product a b)
  without_zeros (domain d) = domain d
  without_zeros (scalar s w) = scalar s (without_zeros w)
  without_zeros (vector n t) = vector (without_zeros n) (without_zeros t)
  without_zeros (data_of d ts) = data_of d (all_without_zeros ts)
  without_zeros (fun a b) = fun (without_zeros a) (without_zeros b)
  without_zeros (signal d t) = signal (without_zeros d) (without_zeros t)
  without_zeros (for_all k t) = for_all k (without_zeros t)

  pub all_without_zeros : TypeTrees → TypeTrees
  all_without_zeros no_types = no_types
  all_without_zeros (type_and t ts) = type_and (without_zeros t) (all_without_zeros ts)
