-- Sorts of scalars, and types of one form with other parts.
use Rattle.chw_types.specs.declared.kind.Scalar.{Scalar}
use Rattle.chw_types.specs.declared.kind.Scalar.TheVariants.{B}
use Rattle.chw_types.specs.TypeTree.{TypeTree, nat_sum, nat_product, scalar, vector, fun, signal}

-- the sort of a scalar, and `B` of any other type
abbrev pub sort_of : TypeTree → Scalar
sort_of (scalar s w) = s
sort_of _ = B

-- the type of the same form with these two parts, and a signal for a type without two parts
abbrev pub pair_like : TypeTree → TypeTree → TypeTree → TypeTree
pair_like (nat_sum c d) a b = nat_sum a b
pair_like (nat_product c d) a b = nat_product a b
pair_like (vector c d) a b = vector a b
pair_like (fun c d) a b = fun a b
pair_like _ a b = signal a b
