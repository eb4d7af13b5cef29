-- Closed types that are the same up to naturals are named alike.
use Rattle.std.specs.Prelude.{◌≡◌, List, [], ◌∷◌}
use Rattle.chw_types.specs.declared.kind.Kind.{Kind}
use Rattle.type_ports.specs.declared.ports.Leaf.{Leaf}
use Rattle.chw_types.specs.TypeTree.{TypeTree}
use Rattle.chw_types.specs.SameTypes.{SameTypes}
use Rattle.type_ports.specs.Representable.{Representable}
use Rattle.type_ports.specs.Ports.{Leaves}
use Rattle.chw_typing.specs.Scopes.{Setting, HasKind}
use Rattle.chw_typing.specs.Programs.{IsSound}

-- the first type is closed and has a kind, and the second is the same up to naturals
pub record AreLike (s : Setting) (t u : TypeTree) : Type 0 where
  pub kind : Kind
  pub has : HasKind s [] t kind
  pub same : SameTypes t u

-- what holds of a closed type holds of each type that is the same up to naturals
abbrev pub IsKept : (Setting → TypeTree → Type 0) → Type 0
IsKept Holds = (s : Setting) (t u : TypeTree) → IsSound s → AreLike s t u → Holds s t → Holds s u

-- whether it is representable
abbrev pub SameKeepsRepresentable : Type 0
SameKeepsRepresentable = IsKept (λ s t. Representable s.datas t)

-- as many leaves, each in the domain of the one at its place, with a payload that is the same up to
-- naturals
abbrev pub AreSameLeaves : List Leaf → List Leaf → Type 0
AreSameLeaves [] [] = Unit {0}
AreSameLeaves (l ∷ ls) (m ∷ ms) =
    (l.dom ≡ m.dom) × SameTypes l.payload m.payload × AreSameLeaves ls ms
AreSameLeaves _ _ = ⊥

-- and a port has the same leaves
abbrev pub SameKeepsLeaves : Type 0
SameKeepsLeaves =
    (s : Setting) (t u : TypeTree) (ls : List Leaf) → IsSound s → AreLike s t u
    → Leaves s.datas t ls → (ms : List Leaf) × Leaves s.datas u ms × AreSameLeaves ls ms
