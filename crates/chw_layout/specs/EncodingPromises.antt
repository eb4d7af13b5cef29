-- What is promised of encodings.
use Rattle.std.specs.Prelude.{◌≡◌, ℕ, Bool, false, List, length, replicate}
use Rattle.chw_types.specs.declared.declarations.Data.{Data}
use Rattle.chw_types.specs.TypeTree.{TypeTree}
use Rattle.chw_layout.specs.Datum.{Datum}
use Rattle.chw_layout.specs.Measured.{HasWidth}
use Rattle.chw_layout.specs.Encodes.{IsValueOf, Encodes, HaveConstructors}

-- what has an encoding is a value of the type
abbrev pub EncodedIsValue : Type 0
EncodedIsValue = (datas : List Data) (t : TypeTree) (v : Datum) (bits : List Bool) → Encodes datas t v bits → IsValueOf datas t v

-- each value of a type with a width has an encoding
abbrev pub ValueIsEncoded : Type 0
ValueIsEncoded = (datas : List Data) (t : TypeTree) (v : Datum) (w : ℕ) → HasWidth datas t w → IsValueOf datas t v → (bits : List Bool) × Encodes datas t v bits

-- of the type's width
abbrev pub EncodingHasWidth : Type 0
EncodingHasWidth = (datas : List Data) (t : TypeTree) (v : Datum) (w : ℕ) (bits : List Bool) → HasWidth datas t w → Encodes datas t v bits → length bits ≡ w

-- and no other one
abbrev pub OneEncoding : Type 0
OneEncoding = (datas : List Data) (t : TypeTree) (v : Datum) (bits more : List Bool) → Encodes datas t v bits → Encodes datas t v more → bits ≡ more

-- two values of a type with a width have two encodings
abbrev pub EncodingIsInjective : Type 0
EncodingIsInjective = (datas : List Data) (t : TypeTree) (v u : Datum) (w : ℕ) (bits : List Bool) → HasWidth datas t w → Encodes datas t v bits → Encodes datas t u bits → v ≡ u

-- each type with a width has a value whose encoding is all zero
abbrev pub ZeroIsThere : Type 0
ZeroIsThere = (datas : List Data) (t : TypeTree) (w : ℕ) → HaveConstructors datas → HasWidth datas t w → (v : Datum) × Encodes datas t v (replicate w false)

-- a type of width 0 has one value and no other
abbrev pub OneValueWithoutBits : Type 0
OneValueWithoutBits = (datas : List Data) (t : TypeTree) → HaveConstructors datas → HasWidth datas t 0 → (v : Datum) × IsValueOf datas t v × ((u : Datum) → IsValueOf datas t u → u ≡ v)
