-- Each part of a type has fewer nodes than the type.
use Rattle.std.specs.Prelude.{ℕ, ◌+◌}
use Rattle.chw_types.specs.TypeTree.{TypeTree, ty_var, nat_lit, nat_sum, nat_product, domain, scalar, vector, data_of, fun, signal, for_all, TypeTrees, no_types, type_and}

abbrev mutual
  -- how many nodes there are
  pub tree_size : TypeTree → ℕ
  tree_size (ty_var x) = 1
  tree_size (nat_lit n) = 1
  tree_size (nat_sum a b) = tree_size a + tree_size b + 1
  tree_size (nat_product a b) = tree_size a + tree_size b + 1
  tree_size (domain d) = 1
  tree_size (scalar s w) = tree_size w + 1
  tree_size (vector n t) = tree_size n + tree_size t + 1
  tree_size (data_of d ts) = trees_size ts + 1
  tree_size (fun a b) = tree_size a + tree_size b + 1
  tree_size (signal d t) = tree_size d + tree_size t + 1
  tree_size (for_all k t) = tree_size t + 1

  pub trees_size : TypeTrees → ℕ
  trees_size no_types = 0
  trees_size (type_and t ts) = tree_size t + trees_size ts + 1
