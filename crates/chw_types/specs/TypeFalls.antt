-- Each child of a node is smaller than what the node stands for.
use Rattle.std.specs.Prelude.{◌+◌, ◌≤◌, List, [], ◌∷◌, max}
use Rattle.std.proofs.Common.{arith}
use denote.Param.Weighed.{most}
use Rattle.chw_types.specs.TypeTree.{TypeTree}
use Rattle.chw_types.specs.declared.ty.TyNode.{TyNode}
use Rattle.chw_types.specs.declared.ty.TyNode.TheVariants.{Var, NatLit, Sum, Times, DomOf, Unsigned, Signed, BitVector, Vec as VecNode, DataOf, Fun, Signal, Forall}
use Rattle.chw_types.specs.declared.ty.Ty.TheDeep.{deep-TyNode}
use Rattle.chw_types.specs.TypeView.{trees_of, tree_of}
use Rattle.chw_types.specs.TypeSize.{tree_size, trees_size}

pub most_trees : (ts : List TypeTree) → most (λ t. tree_size t + 1) ts ≤ trees_size (trees_of ts) + 1
most_trees [] = omega arith
most_trees (t ∷ ts) = omega (arith, most_trees ts)

pub type_falls : (n : TyNode) → max (deep-TyNode n) 0 ≤ tree_size (tree_of n)
type_falls (Var x) = omega arith
type_falls (NatLit n) = omega arith
type_falls (Sum a b) = omega arith
type_falls (Times a b) = omega arith
type_falls (DomOf d) = omega arith
type_falls (Unsigned w) = omega arith
type_falls (Signed w) = omega arith
type_falls (BitVector w) = omega arith
type_falls (VecNode n t) = omega arith
type_falls (DataOf d ts) = omega (arith, most_trees ts.items)
type_falls (Fun a b) = omega arith
type_falls (Signal d t) = omega arith
type_falls (Forall k t) = omega arith
