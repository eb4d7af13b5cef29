-- Types all of whose naturals have a degree that a kind allows.
use Rattle.std.specs.Prelude.{◌≤◌}
use Rattle.chw_types.specs.TypeTree.{TypeTree, nat_sum, nat_product, scalar, vector, data_of, fun, signal, for_all, TypeTrees, no_types, type_and}
use Rattle.chw_types.specs.Kinds.{degree, most_degree}

abbrev mutual
  -- each sum and product in the type has a degree of at most the greatest
  pub DegreesFit : TypeTree → Type 0
  DegreesFit (nat_sum a b) = (degree (nat_sum a b) ≤ most_degree) × DegreesFit a × DegreesFit b
  DegreesFit (nat_product a b) = (degree (nat_product a b) ≤ most_degree) × DegreesFit a × DegreesFit b
  DegreesFit (scalar s w) = DegreesFit w
  DegreesFit (vector n t) = DegreesFit n × DegreesFit t
  DegreesFit (data_of d ts) = AllDegreesFit ts
  DegreesFit (fun a b) = DegreesFit a × DegreesFit b
  DegreesFit (signal d t) = DegreesFit d × DegreesFit t
  DegreesFit (for_all k t) = DegreesFit t
  DegreesFit _ = Unit {0}

  pub AllDegreesFit : TypeTrees → Type 0
  AllDegreesFit no_types = Unit {0}
  AllDegreesFit (type_and t ts) = DegreesFit t × AllDegreesFit ts
