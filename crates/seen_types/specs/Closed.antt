-- Types without variables.
use Rattle.chw_types.specs.TypeTree.{TypeTree, ty_var, nat_sum, nat_product, scalar, vector}
use Rattle.chw_types.specs.TypeTree.{data_of, fun, signal, for_all, TypeTrees, no_types, type_and}

abbrev mutual
  -- no variable is in the type, not even one that is bound in it
  pub HasNoVariables : TypeTree → Type 0
  HasNoVariables (ty_var x) = ⊥
  HasNoVariables (nat_sum a b) = HasNoVariables a × HasNoVariables b
  HasNoVariables (nat_product a b) = HasNoVariables a × HasNoVariables b
  HasNoVariables (scalar s w) = HasNoVariables w
  HasNoVariables (vector n t) = HasNoVariables n × HasNoVariables t
  HasNoVariables (data_of d ts) = HaveNoVariables ts
  HasNoVariables (fun a b) = HasNoVariables a × HasNoVariables b
  HasNoVariables (signal d t) = HasNoVariables d × HasNoVariables t
  HasNoVariables (for_all k t) = HasNoVariables t
  HasNoVariables _ = Unit {0}

  pub HaveNoVariables : TypeTrees → Type 0
  HaveNoVariables no_types = Unit {0}
  HaveNoVariables (type_and t ts) = HasNoVariables t × HaveNoVariables ts
