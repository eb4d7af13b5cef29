-- Types that keep their kinds where others are put for their variables.
use Rattle.std.specs.Prelude.{◌≤◌, List, ◌⊎◌}
use Rattle.chw_types.specs.Kinds.{degree}
use Rattle.chw_types.specs.TypeTree.{TypeTree, nat_sum, nat_product, scalar, vector, data_of}
use Rattle.chw_types.specs.TypeTree.{fun, signal, for_all, TypeTrees, no_types, type_and}
use Rattle.seen_types.specs.Each.{Each}

-- if the type is a natural, it has a degree of at most 1
abbrev pub IsLinear : TypeTree → Type 0
IsLinear t = degree t ≤ 1

abbrev mutual
  -- no sum and no product is in the type
  pub HasNoSums : TypeTree → Type 0
  HasNoSums (nat_sum a b) = ⊥
  HasNoSums (nat_product a b) = ⊥
  HasNoSums (scalar s w) = HasNoSums w
  HasNoSums (vector n t) = HasNoSums n × HasNoSums t
  HasNoSums (data_of d ts) = HaveNoSums ts
  HasNoSums (fun a b) = HasNoSums a × HasNoSums b
  HasNoSums (signal d t) = HasNoSums d × HasNoSums t
  HasNoSums (for_all k t) = HasNoSums t
  HasNoSums _ = Unit {0}

  pub HaveNoSums : TypeTrees → Type 0
  HaveNoSums no_types = Unit {0}
  HaveNoSums (type_and t ts) = HasNoSums t × HaveNoSums ts

-- each field keeps its kind at these arguments: the arguments are linear, or no sum
-- and no product is in the fields
abbrev pub KeepKinds : List TypeTree → List TypeTree → Type 0
KeepKinds fields args = Each IsLinear args ⊎ Each HasNoSums fields
