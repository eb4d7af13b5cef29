-- A zero of each type whose values are bits.
use Rattle.std.specs.Prelude.{ℕ, List}
use Rattle.chw_types.specs.declared.declarations.Data.{Data}
use Rattle.chw_types.specs.TypeTree.{TypeTree}
use Rattle.type_ports.specs.Representable.{Representable}
use Rattle.chw_layout.specs.Datum.{Datum}
use Rattle.chw_layout.specs.Measured.{HasWidth}
use Rattle.chw_layout.specs.Encodes.{HaveConstructors}
use Rattle.chw_meaning.specs.Zeros.{IsZero}

-- where each data type has a constructor, each type with a width has a zero
abbrev pub ZeroExists : Type 0
ZeroExists =
    (datas : List Data) (t : TypeTree) (w : ℕ) → HaveConstructors datas → HasWidth datas t w
    → (z : Datum) × IsZero datas t z

-- and so has each representable type, even one that passes a limit
abbrev pub ZeroWithoutWidth : Type 0
ZeroWithoutWidth =
    (datas : List Data) (t : TypeTree) → HaveConstructors datas → Representable datas t
    → (z : Datum) × IsZero datas t z
