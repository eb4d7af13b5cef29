-- What is promised of encodings of data values.
use Rattle.std.specs.Prelude.{Bool, List, false, length, replicate, ℕ, ◌≡◌}
use Rattle.chw_layout.specs.Datum.{Datum}
use Rattle.chw_layout.specs.Encodes.{Encodes, IsValueOf}
use Rattle.chw_layout.specs.Measured.{HasWidth}
use Rattle.chw_layout.specs.Refusals.{TagSuffices}
use Rattle.chw_meaning.specs.Zeros.{IsZero}
use Rattle.chw_types.specs.TypeTree.{TypeTree}
use Rattle.chw_types.specs.declared.declarations.Data.{Data}

-- facts on encodings of data values
pub record EncodingFacts : Type 0 where
  -- there are at least as many tags as constructors
  pub tag_suffices : TagSuffices
  -- an encoding is as long as the type is wide
  pub encoded_length :
      {datas : List Data} {t : TypeTree} {v : Datum} {bits : List Bool} {w : ℕ}
      → Encodes datas t v bits → HasWidth datas t w → length bits ≡ w
  -- what is encoded at a type is a data value of it
  pub encoded_value :
      {datas : List Data} {t : TypeTree} {v : Datum} {bits : List Bool}
      → Encodes datas t v bits → IsValueOf datas t v
  -- the zero of a type is encoded by zeros
  pub zero_bits :
      {datas : List Data} {t : TypeTree} {w : ℕ} {z : Datum}
      → HasWidth datas t w → IsZero datas t z → Encodes datas t z (replicate w false)
