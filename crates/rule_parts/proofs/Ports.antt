-- Types that are judged by their form.
use Rattle.std.proofs.Common.{◌≡◌, ◌↔◌, ◌⊎◌, inl, inr, sym, subst, List, [], ◌∷◌, Bool, IsTrue, Result, IfOk, Ok, Err, Box, Global}
use Rattle.chw_base.specs.declared.index.DomId.{DomId}
use Rattle.chw_types.specs.declared.declarations.Data.{Data}
use Rattle.type_ports.specs.declared.ports.Leaf.{Leaf}
use Rattle.chw_types.specs.declared.ty.Ty.{Ty}
use Rattle.chw_types.specs.declared.ty.TyNode.{TyNode}
use Rattle.chw_types.specs.declared.ty.TyNode.TheVariants.{Unsigned, Signed, BitVector}
use Rattle.type_ports.specs.Ports.{IsPort, Leaves, leaf_of, one_leaf}
use Rattle.type_ports.specs.Representable.{Representable, representable_scalar}
use Rattle.chw_types.specs.TypeTree.{TypeTree, domain, signal}
use Rattle.chw_types.specs.TypeView.{tree_of}
use Rattle.chw_terms.specs.declared.scene.Mode.{Mode}
use Rattle.chw_terms.specs.declared.scene.Mode.TheVariants.{C, HC}
use Rattle.rewriting.specs.Named.{IsNamed}

-- values of a scalar type are bits
pub scalars_are_bits : (datas : List Data) (n : TyNode)
    → ((x : Box Ty Global) × (n ≡ Unsigned x)) ⊎ (((x : Box Ty Global) × (n ≡ Signed x)) ⊎ ((x : Box Ty Global) × (n ≡ BitVector x)))
    → Representable datas (tree_of n)
scalars_are_bits datas n (inl u) = subst (λ m. Representable datas (tree_of m)) (sym u.1) representable_scalar
scalars_are_bits datas n (inr (inl s)) = subst (λ m. Representable datas (tree_of m)) (sym s.1) representable_scalar
scalars_are_bits datas n (inr (inr b)) = subst (λ m. Representable datas (tree_of m)) (sym b.1) representable_scalar

-- a signal is a port exactly where its values are bits
pub signal_is_port : (datas : List Data) (d : DomId) (t : TypeTree) → Representable datas t ↔ IsPort datas (signal (domain d.number) t)
signal_is_port datas d t = (λ r. (leaf_of d t ∷ [], one_leaf r), λ p. payload p.1)
  where
    payload : {ls : List Leaf} → Leaves datas (signal (domain d.number) t) ls → Representable datas t
    payload (one_leaf r) = r

-- where a circuit is, ports are named
pub ports_are_named : (datas : List Data) (m : Mode) (t : TypeTree) → (m ≡ C) ⊎ (m ≡ HC) → IsPort datas t ↔ IsNamed datas m t
ports_are_named datas m t (inl e) = subst (λ m. IsPort datas t ↔ IsNamed datas m t) (sym e) (λ p. p, λ p. p)
ports_are_named datas m t (inr e) = subst (λ m. IsPort datas t ↔ IsNamed datas m t) (sym e) (λ p. p, λ p. p)

-- a test of the one is a test of the other
pub tests_other : {A B E : Type 0} (r : Result Bool E) → (A ↔ B) → IfOk r (λ is. IsTrue is ↔ A) → IfOk r (λ is. IsTrue is ↔ B)
tests_other (Ok is) same h = (λ y. same.0 (h.0 y), λ b. h.1 (same.1 b))
tests_other (Err e) same h = h
