-- Each child of a node is smaller than what the node stands for.
use Rattle.std.specs.Prelude.{◌+◌, ◌≤◌, List, [], ◌∷◌, max}
use Rattle.std.proofs.Common.{arith}
use denote.Param.Weighed.{most}
use Rattle.chw_grammar.specs.TypeTree.{Ty}
use Rattle.chw_grammar.specs.declared.type_tree.TypeNode.{TypeNode}
use Rattle.chw_grammar.specs.declared.type_tree.TypeNode.TheVariants.{Forall, Arrow, Sum, Product, Named, Variable, Numeral}
use Rattle.chw_grammar.specs.declared.type_tree.TypeTree.TheDeep.{deep-TypeNode}
use Rattle.chw_grammar.specs.TypeView.{types_of, type_of}
use Rattle.chw_grammar.specs.TypeSize.{type_size, types_size}

pub most_types : (ts : List Ty) → most (λ t. type_size t + 1) ts ≤ types_size (types_of ts) + 1
most_types [] = omega arith
most_types (t ∷ ts) = omega (arith, most_types ts)

pub type_falls : (n : TypeNode) → max (deep-TypeNode n) 0 ≤ type_size (type_of n)
type_falls (Forall w k t) = omega arith
type_falls (Arrow a b) = omega arith
type_falls (Sum ts) = omega (arith, most_types ts.items)
type_falls (Product ts) = omega (arith, most_types ts.items)
type_falls (Named w ts) = omega (arith, most_types ts.items)
type_falls (Variable w) = omega arith
type_falls (Numeral w) = omega arith
