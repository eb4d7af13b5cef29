-- Closed types that are the same up to naturals have one layout, and the same values.
use Rattle.std.specs.Prelude.{◌≡◌, Bool, List}
use Rattle.chw_types.specs.TypeTree.{TypeTree}
use Rattle.chw_types.specs.SameTypes.{SameTypes}
use Rattle.chw_typing.specs.Alike.{IsKept}
use Rattle.chw_layout.specs.Datum.{Datum}
use Rattle.chw_layout.specs.Measured.{Measure, closed_value, Measured}
use Rattle.chw_layout.specs.Encodes.{IsValueOf, Encodes}
use Rattle.chw_meaning.specs.Zeros.{IsZero}

-- types that are the same mean one number
abbrev pub SameNumber : Type 0
SameNumber = (t u : TypeTree) → SameTypes t u → closed_value t ≡ closed_value u

-- its measure, so its width
abbrev pub SameKeepsMeasure : Type 0
SameKeepsMeasure = (m : Measure) → IsKept (λ s t. Measured s.datas t m)

-- which values it has
abbrev pub SameKeepsValues : Type 0
SameKeepsValues = (v : Datum) → IsKept (λ s t. IsValueOf s.datas t v)

-- the bits of each
abbrev pub SameKeepsEncodings : Type 0
SameKeepsEncodings = (v : Datum) (bits : List Bool) → IsKept (λ s t. Encodes s.datas t v bits)

-- which of them is zero
abbrev pub SameKeepsZeros : Type 0
SameKeepsZeros = (z : Datum) → IsKept (λ s t. IsZero s.datas t z)
