-- Types without sums and products.
use Rattle.std.proofs.Common.{List, [], ◌∷◌}
use Rattle.chw_types.specs.TypeTree.{TypeTree}
use Rattle.chw_types.specs.TypeView.{trees_of}
use Rattle.seen_types.specs.Each.{Each}
use Rattle.seen_types.specs.Keeping.{HasNoSums, HaveNoSums}

-- no sum and no product is in a list of trees
pub no_sums_in_trees : (ts : List TypeTree) → Each HasNoSums ts → HaveNoSums (trees_of ts)
no_sums_in_trees [] h = tt
no_sums_in_trees (t ∷ ts) h = (h.0, no_sums_in_trees ts h.1)
