-- The parts of an encoding of data: its tag, and the bits of its fields.
use Rattle.std.specs.Prelude.{◌≡◌, ℕ, Bool, List, [], ◌∷◌, Some}
use Rattle.chw_types.specs.declared.declarations.Data.{Data}
use Rattle.chw_types.specs.TypeTree.{TypeTree, data_of, TypeTrees}
use Rattle.chw_terms.specs.Constructors.{Constructor, con_at}
use Rattle.chw_typing.specs.HeadTypes.{fields_at}
use Rattle.chw_layout.specs.Datum.{Datum, built, Datums, no_data, datum_and}
use Rattle.chw_layout.specs.Encodes.{Encodes}
use Rattle.carrying.specs.Carrying.{tag_of}
use Rattle.carrying.specs.DataLaws.{tag_in, behind_tag, Parts}

-- each of these bits encodes the data value at its place, of the type there
pub data EncodeEach (datas : List Data)
    : List TypeTree → Datums → List (List Bool) → Type 0 where
  encode_none : EncodeEach datas [] no_data []
  encode_and : {t : TypeTree} {ts : List TypeTree} {v : Datum} {vs : Datums} {b : List Bool}
      {parts : List (List Bool)}
      → Encodes datas t v b
      → EncodeEach datas ts vs parts
      → EncodeEach datas (t ∷ ts) (datum_and v vs) (b ∷ parts)

-- what an encoding of data that are built with a constructor is made of
pub record EncodedParts
    (datas : List Data) (d n : ℕ) (ts : TypeTrees) (vs : Datums) (b : List Bool) : Type 0
  where
    pub it : Constructor
    pub held : con_at datas n ≡ Some it
    pub of_type : it.of ≡ d
    pub tag : tag_in it b ≡ tag_of datas n it
    pub fields : (parts : List (List Bool))
        → Parts datas (fields_at it ts) (behind_tag it b) parts
        → EncodeEach datas (fields_at it ts) vs parts

-- it begins with the constructor's tag; behind it lie the encodings of the fields
abbrev pub EncodingHasParts : Type 0
EncodingHasParts =
    (datas : List Data) (d n : ℕ) (ts : TypeTrees) (vs : Datums) (b : List Bool)
    → Encodes datas (data_of d ts) (built n vs) b → EncodedParts datas d n ts vs b
