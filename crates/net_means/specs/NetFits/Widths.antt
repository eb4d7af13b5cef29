-- Wires with their widths.
use Rattle.std.specs.Prelude.{◌≡◌, ℕ, ◌+◌, List, [], ◌∷◌, Some, slice_get}
use Rattle.chw_base.specs.declared.index.WireId.{WireId}
use Rattle.chw_types.specs.declared.declarations.Data.{Data}
use Rattle.chw_types.specs.TypeTree.{TypeTree}
use Rattle.chw_layout.specs.Measured.{HasWidth as TypeHasWidth}
use Rattle.netlist.specs.Sound.{HasWidth}
use Rattle.net_built.specs.Terms.{Variable}
use Rattle.net_built.specs.Wires.{present}

-- among wires of these widths these wires have those widths, each at its place
abbrev pub AreWide : (all : List ℕ) → List WireId → List ℕ → Type 0
AreWide all [] [] = Unit {0}
AreWide all (a ∷ wires) (w ∷ widths) = HasWidth all a w × AreWide all wires widths
AreWide all _ _ = ⊥

-- these widths stand among all in order, the first one at this number
abbrev pub StandFrom : (all : List ℕ) → ℕ → List ℕ → Type 0
StandFrom all n [] = Unit {0}
StandFrom all n (w ∷ widths) = (slice_get all n ≡ Some w) × StandFrom all (n + 1) widths

-- the type has a width, and the wires have it
pub record IsWide (datas : List Data) (all : List ℕ) (t : TypeTree) (wires : List WireId)
    : Type 0 where
  pub width : ℕ
  pub has : TypeHasWidth datas t width
  pub wide : AreWide all wires (present (width ∷ []))

-- the variable of this number, if there is one, has wires as wide as its type
abbrev pub WideAt : List Data → (all : List ℕ) → List Variable → ℕ → Type 0
WideAt datas all scope x =
    (v : Variable) → slice_get scope x ≡ Some v → IsWide datas all v.ty v.wires
