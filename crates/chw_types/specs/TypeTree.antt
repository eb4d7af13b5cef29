-- Types as plain trees, with variables by their distance to the binder.
use Rattle.std.specs.Prelude.{ℕ}
use Rattle.chw_types.specs.declared.kind.Kind.{Kind}
use Rattle.chw_types.specs.declared.kind.Scalar.{Scalar}

mutual
  -- a type; a vector has its length first, a signal its domain
  pub data TypeTree : Type 0 where
    ty_var : ℕ → TypeTree
    nat_lit : ℕ → TypeTree
    nat_sum : TypeTree → TypeTree → TypeTree
    nat_product : TypeTree → TypeTree → TypeTree
    domain : ℕ → TypeTree
    scalar : Scalar → TypeTree → TypeTree
    vector : TypeTree → TypeTree → TypeTree
    data_of : ℕ → TypeTrees → TypeTree
    fun : TypeTree → TypeTree → TypeTree
    signal : TypeTree → TypeTree → TypeTree
    for_all : Kind → TypeTree → TypeTree

  -- the arguments of a data type, the first one first
  pub data TypeTrees : Type 0 where
    no_types : TypeTrees
    type_and : TypeTree → TypeTrees → TypeTrees
