-- Each part of a type has fewer nodes than the type.
use Rattle.std.specs.Prelude.{ℕ, ◌+◌}
use Rattle.chw_grammar.specs.TypeTree.{Ty, type_forall, type_arrow, type_sum, type_product, type_named, type_variable, type_numeral, Tys, no_types, type_and}

abbrev mutual
  pub type_size : Ty → ℕ
  type_size (type_forall w k t) = type_size t + 1
  type_size (type_arrow a b) = type_size a + type_size b + 1
  type_size (type_sum ts) = types_size ts + 1
  type_size (type_product ts) = types_size ts + 1
  type_size (type_named w ts) = types_size ts + 1
  type_size (type_variable w) = 1
  type_size (type_numeral w) = 1

  pub types_size : Tys → ℕ
  types_size no_types = 0
  types_size (type_and t ts) = type_size t + types_size ts + 1
