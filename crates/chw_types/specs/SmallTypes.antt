-- How deep types are, and how many parts they have.
use Rattle.std.specs.Prelude.{◌≡◌, ℕ, ◌+◌, ◌≤◌, max}
use Rattle.chw_base.specs.declared.limits.TheConstants.{TYPE_DEPTH, TYPE_PARTS}
use Rattle.chw_types.specs.TypeTree.{TypeTree, nat_sum, nat_product, scalar, vector, data_of}
use Rattle.chw_types.specs.TypeTree.{fun, signal, for_all, TypeTrees, no_types, type_and}

unfoldable mutual
  -- one more than the depth of the deepest part
  pub depth_of : TypeTree → ℕ
  depth_of (nat_sum a b) = max (depth_of a) (depth_of b) + 1
  depth_of (nat_product a b) = max (depth_of a) (depth_of b) + 1
  depth_of (scalar s w) = depth_of w + 1
  depth_of (vector n t) = max (depth_of n) (depth_of t) + 1
  depth_of (data_of d ts) = deepest_of ts + 1
  depth_of (fun a b) = max (depth_of a) (depth_of b) + 1
  depth_of (signal d t) = max (depth_of d) (depth_of t) + 1
  depth_of (for_all k t) = depth_of t + 1
  depth_of _ = 1

  -- the depth of the deepest of these types, 0 where there is none
  pub deepest_of : TypeTrees → ℕ
  deepest_of no_types = 0
  deepest_of (type_and t ts) = max (depth_of t) (deepest_of ts)

unfoldable mutual
  -- the type itself and the parts of its parts
  pub parts_of : TypeTree → ℕ
  parts_of (nat_sum a b) = parts_of a + parts_of b + 1
  parts_of (nat_product a b) = parts_of a + parts_of b + 1
  parts_of (scalar s w) = parts_of w + 1
  parts_of (vector n t) = parts_of n + parts_of t + 1
  parts_of (data_of d ts) = all_parts_of ts + 1
  parts_of (fun a b) = parts_of a + parts_of b + 1
  parts_of (signal d t) = parts_of d + parts_of t + 1
  parts_of (for_all k t) = parts_of t + 1
  parts_of _ = 1

  -- the parts of all these types
  pub all_parts_of : TypeTrees → ℕ
  all_parts_of no_types = 0
  all_parts_of (type_and t ts) = parts_of t + all_parts_of ts

-- the type is no deeper, and has no more parts, than what putting types into another may give
pub record IsSmall (t : TypeTree) : Type 0 where
  pub shallow : depth_of t ≤ TYPE_DEPTH
  pub few : parts_of t ≤ TYPE_PARTS

-- the type is no deeper than this, and of so many parts it leaves the rest
pub record Takes (t : TypeTree) (depth parts left : ℕ) : Type 0 where
  pub shallow : depth_of t ≤ depth
  pub few : parts_of t + left ≡ parts
