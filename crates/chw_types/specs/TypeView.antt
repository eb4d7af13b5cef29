-- The plain trees that the nodes of types stand for.
use Rattle.std.specs.Prelude.{List, [], ◌∷◌}
use Rattle.chw_types.specs.TypeTree.{TypeTree, ty_var, nat_lit, nat_sum, nat_product, domain, scalar, vector, data_of, fun, signal, for_all, TypeTrees, no_types, type_and}
use Rattle.chw_types.specs.declared.kind.Scalar.TheVariants.{U, S, B}
use Rattle.chw_types.specs.declared.ty.TyNode.{TyNode}
use Rattle.chw_types.specs.declared.ty.TyNode.TheVariants.{Var, NatLit, Sum, Times, DomOf, Unsigned, Signed, BitVector, Vec as VecNode, DataOf, Fun, Signal, Forall}

abbrev pub trees_of : List TypeTree → TypeTrees
trees_of [] = no_types
trees_of (t ∷ ts) = type_and t (trees_of ts)

abbrev pub tree_of : TyNode → TypeTree
tree_of (Var x) = ty_var x.number
tree_of (NatLit n) = nat_lit n
tree_of (Sum a b) = nat_sum a.value b.value
tree_of (Times a b) = nat_product a.value b.value
tree_of (DomOf d) = domain d.number
tree_of (Unsigned w) = scalar U w.value
tree_of (Signed w) = scalar S w.value
tree_of (BitVector w) = scalar B w.value
tree_of (VecNode n t) = vector n.value t.value
tree_of (DataOf d ts) = data_of d.number (trees_of ts.items)
tree_of (Fun a b) = fun a.value b.value
tree_of (Signal d t) = signal d.value t.value
tree_of (Forall k t) = for_all k t.value
