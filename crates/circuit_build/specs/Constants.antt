-- The bits of constants, put behind others.
use Rattle.std.specs.Prelude.{◌≡◌, List, ◌++◌, Bool}
use Rattle.chw_types.specs.declared.declarations.Data.{Data}
use Rattle.chw_types.specs.TypeMoves.{Substitution}
use Rattle.chw_types.specs.TypeTree.{TypeTree}
use Rattle.chw_terms.specs.TermTree.{TermTree}
use Rattle.chw_layout.specs.Datum.{Datum, Datums}
use Rattle.chw_layout.specs.Encodes.{Encodes, EncodesElements, EncodesFields}
use Rattle.net_built.specs.Memories.{Denotes, DenoteEach, EncodeEach}

-- the bits of the constant of this type were put behind others
pub record AddsBits (datas : List Data) (t : TypeTree) (e : TermTree) (before later : List Bool)
    : Type 0 where
  pub value : Datum
  pub bits : List Bool
  pub denotes : Denotes e value
  pub encodes : Encodes datas t value bits
  pub are : later ≡ before ++ bits

-- the bits of these constants of one type were put behind others, in order
pub record AddsElements (datas : List Data) (t : TypeTree) (es : List TermTree)
    (before later : List Bool) : Type 0 where
  pub values : Datums
  pub bits : List Bool
  pub denote : DenoteEach es values
  pub encode : EncodesElements datas t values bits
  pub are : later ≡ before ++ bits

-- the bits of constants of these fields, with this put in, were put behind others, in order
pub record AddsFields (datas : List Data) (fields : List TypeTree) (σ : Substitution)
    (es : List TermTree) (before later : List Bool) : Type 0 where
  pub values : Datums
  pub bits : List Bool
  pub denote : DenoteEach es values
  pub encode : EncodesFields datas fields σ values bits
  pub are : later ≡ before ++ bits

-- these constants of one type have these bits, each at its place
pub record AreWords (datas : List Data) (t : TypeTree) (es : List TermTree)
    (words : List (List Bool)) : Type 0 where
  pub values : Datums
  pub denote : DenoteEach es values
  pub encode : EncodeEach datas t values words

-- each of these constants of one type has bits
pub record HaveBits (datas : List Data) (t : TypeTree) (es : List TermTree) : Type 0 where
  pub values : Datums
  pub bits : List Bool
  pub denote : DenoteEach es values
  pub encode : EncodesElements datas t values bits

-- so has each of these constants of fields, with this put in
pub record FieldsHaveBits (datas : List Data) (fields : List TypeTree) (σ : Substitution)
    (es : List TermTree) : Type 0 where
  pub values : Datums
  pub bits : List Bool
  pub denote : DenoteEach es values
  pub encode : EncodesFields datas fields σ values bits

-- so has each of these words
pub record HaveWords (datas : List Data) (t : TypeTree) (es : List TermTree) : Type 0 where
  pub values : Datums
  pub words : List (List Bool)
  pub denote : DenoteEach es values
  pub encode : EncodeEach datas t values words
