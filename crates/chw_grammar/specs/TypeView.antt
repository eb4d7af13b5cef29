-- The plain trees that nodes of types stand for.
use Rattle.std.specs.Prelude.{List, [], ◌∷◌}
use Rattle.chw_grammar.specs.declared.type_tree.TypeNode.{TypeNode}
use Rattle.chw_grammar.specs.declared.type_tree.TypeNode.TheVariants.{Forall, Arrow, Sum, Product, Named, Variable, Numeral}
use Rattle.chw_grammar.specs.TypeTree.{Ty, type_forall, type_arrow, type_sum, type_product, type_named, type_variable, type_numeral, Tys, no_types, type_and}

abbrev pub types_of : List Ty → Tys
types_of [] = no_types
types_of (t ∷ ts) = type_and t (types_of ts)

abbrev pub type_of : TypeNode → Ty
type_of (Forall w k t) = type_forall w k t.value
type_of (Arrow a b) = type_arrow a.value b.value
type_of (Sum ts) = type_sum (types_of ts.items)
type_of (Product ts) = type_product (types_of ts.items)
type_of (Named w ts) = type_named w (types_of ts.items)
type_of (Variable w) = type_variable w
type_of (Numeral w) = type_numeral w
