-- Why a type has no layout, and what is promised of measures.
use Rattle.std.specs.Prelude.{◌≡◌, ℕ, ◌^◌, ◌≤◌, List}
use Rattle.chw_types.specs.declared.declarations.Data.{Data}
use Rattle.chw_types.specs.TypeTree.{TypeTree}
use Rattle.type_ports.specs.Representable.{Representable}
use Rattle.chw_layout.specs.declared.outcome.NoLayout.{NoLayout}
use Rattle.chw_layout.specs.declared.outcome.NoLayout.TheVariants.{NotRepresentable}
use Rattle.chw_layout.specs.Measured.{Measure, too_wide, tag_width, Measured}

-- the type is not representable, or it is and this is the first limit that it passes
abbrev pub IsRefusal : List Data → TypeTree → NoLayout → Type 0
IsRefusal datas t NotRepresentable = Representable datas t → ⊥
IsRefusal datas t e = Measured datas t (too_wide e)

-- a type has at most one measure
abbrev pub OneMeasure : Type 0
OneMeasure = (datas : List Data) (t : TypeTree) (m n : Measure) → Measured datas t m → Measured datas t n → m ≡ n

-- every representable type has a measure
abbrev pub RepresentableIsMeasured : Type 0
RepresentableIsMeasured = (datas : List Data) (t : TypeTree) → Representable datas t → (m : Measure) × Measured datas t m

-- and nothing else has
abbrev pub MeasuredIsRepresentable : Type 0
MeasuredIsRepresentable = (datas : List Data) (t : TypeTree) (m : Measure) → Measured datas t m → Representable datas t

-- a tag tells the constructors apart, and no shorter one does
abbrev pub TagSuffices : Type 0
TagSuffices = (n : ℕ) → n ≤ 2 ^ tag_width n

abbrev pub TagIsShortest : Type 0
TagIsShortest = (n k : ℕ) → n ≤ 2 ^ k → tag_width n ≤ k
