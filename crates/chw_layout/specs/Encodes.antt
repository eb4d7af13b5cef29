-- The values of a type, and how they lie in bits.
use Rattle.std.specs.Prelude.{◌≡◌, ℕ, zero, suc, ◌+◌, ◌-◌, ◌<◌, Bool, false, List, [], ◌∷◌, ◌++◌, length, replicate, Some}
use Rattle.std.specs.List.{slice_get}
use Rattle.chw_bits.specs.Bits.{bits_of}
use Rattle.chw_types.specs.declared.kind.Scalar.{Scalar}
use Rattle.chw_types.specs.declared.declarations.ConDecl.{ConDecl}
use Rattle.chw_types.specs.declared.declarations.Data.{Data}
use Rattle.chw_types.specs.TypeTree.{TypeTree, scalar, vector, data_of, TypeTrees}
use Rattle.chw_types.specs.TypeMoves.{Substitution, sub}
use Rattle.chw_types.specs.Arguments.{list_of, arguments}
use Rattle.chw_layout.specs.Datum.{Datum, word, built, elements, Datums, no_data, datum_and}
use Rattle.chw_layout.specs.Measured.{closed_value, tag_width, HasWidth}

abbrev pub count_of : Datums → ℕ
count_of no_data = 0
count_of (datum_and v vs) = suc (count_of vs)

-- how many constructors the data types before this one have: the number of its first constructor
abbrev pub first_constructor : List Data → ℕ → ℕ
first_constructor [] d = 0
first_constructor (it ∷ datas) zero = 0
first_constructor (it ∷ datas) (suc d) = length it.cons + first_constructor datas d

mutual
  -- the value is one of the closed type
  pub data IsValueOf (datas : List Data) : TypeTree → Datum → Type 0 where
    scalar_value : {s : Scalar} {w : TypeTree} {bits : List Bool} → length bits ≡ closed_value w → IsValueOf datas (scalar s w) (word bits)
    vector_value : {n t : TypeTree} {vs : Datums} → count_of vs ≡ closed_value n → AreElements datas t vs → IsValueOf datas (vector n t) (elements vs)
    data_value : {d n : ℕ} (i : ℕ) (it : Data) (c : ConDecl) {ts : TypeTrees} {vs : Datums} → slice_get datas d ≡ Some it → length (list_of ts) ≡ length it.params → n ≡ first_constructor datas d + i → slice_get it.cons i ≡ Some c → AreFields datas c.fields (arguments ts) vs → IsValueOf datas (data_of d ts) (built n vs)

  -- each value is one of the type
  pub data AreElements (datas : List Data) : TypeTree → Datums → Type 0 where
    no_elements : {t : TypeTree} → AreElements datas t no_data
    element_and : {t : TypeTree} {v : Datum} {vs : Datums} → IsValueOf datas t v → AreElements datas t vs → AreElements datas t (datum_and v vs)

  -- there is a value for each of these types, with this put in
  pub data AreFields (datas : List Data) : List TypeTree → Substitution → Datums → Type 0 where
    no_fields : {σ : Substitution} → AreFields datas [] σ no_data
    field_and : {f : TypeTree} {fs : List TypeTree} {σ : Substitution} {v : Datum} {vs : Datums} → IsValueOf datas (sub f σ) v → AreFields datas fs σ vs → AreFields datas (f ∷ fs) σ (datum_and v vs)

-- with zeros up to the width
abbrev pub filled : ℕ → List Bool → List Bool
filled width bits = bits ++ replicate (width - length bits) false

mutual
  -- the value is one of the closed type and has these bits: a scalar its own, a vector those of its elements in order, and data its tag,
  -- its fields in order, and zeros up to the width of the type. The tag is the number of the constructor among those of its data type.
  pub data Encodes (datas : List Data) : TypeTree → Datum → List Bool → Type 0 where
    scalar_bits : {s : Scalar} {w : TypeTree} {bits : List Bool} → length bits ≡ closed_value w → Encodes datas (scalar s w) (word bits) bits
    vector_bits : {n t : TypeTree} {vs : Datums} {bits : List Bool} → count_of vs ≡ closed_value n → EncodesElements datas t vs bits → Encodes datas (vector n t) (elements vs) bits
    data_bits : {d n : ℕ} (i width : ℕ) (it : Data) (c : ConDecl) {ts : TypeTrees} {vs : Datums} (bits : List Bool) → slice_get datas d ≡ Some it → n ≡ first_constructor datas d + i → slice_get it.cons i ≡ Some c → EncodesFields datas c.fields (arguments ts) vs bits → HasWidth datas (data_of d ts) width → Encodes datas (data_of d ts) (built n vs) (filled width (bits_of (tag_width (length it.cons)) i ++ bits))

  -- the values are of the type and have these bits one after the other
  pub data EncodesElements (datas : List Data) : TypeTree → Datums → List Bool → Type 0 where
    no_element_bits : {t : TypeTree} → EncodesElements datas t no_data []
    element_bits : {t : TypeTree} {v : Datum} {vs : Datums} {bits more : List Bool} → Encodes datas t v bits → EncodesElements datas t vs more → EncodesElements datas t (datum_and v vs) (bits ++ more)

  -- so are values of these types, with this put in
  pub data EncodesFields (datas : List Data) : List TypeTree → Substitution → Datums → List Bool → Type 0 where
    no_field_bits : {σ : Substitution} → EncodesFields datas [] σ no_data []
    field_bits : {f : TypeTree} {fs : List TypeTree} {σ : Substitution} {v : Datum} {vs : Datums} {bits more : List Bool} → Encodes datas (sub f σ) v bits → EncodesFields datas fs σ vs more → EncodesFields datas (f ∷ fs) σ (datum_and v vs) (bits ++ more)

-- each data type has a constructor
abbrev pub HaveConstructors : List Data → Type 0
HaveConstructors datas = (d : ℕ) (it : Data) → slice_get datas d ≡ Some it → 0 < length it.cons
