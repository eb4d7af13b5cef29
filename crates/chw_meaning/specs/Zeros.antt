-- The data value of a type whose bits are all zero, and the types whose values have bits.
use Rattle.std.specs.Prelude.{◌≡◌, ℕ, suc, zero, false, List, [], ◌∷◌, replicate, Some, slice_get}
use Rattle.chw_types.specs.declared.kind.Scalar.{Scalar}
use Rattle.chw_types.specs.declared.declarations.ConDecl.{ConDecl}
use Rattle.chw_types.specs.declared.declarations.Data.{Data}
use Rattle.chw_types.specs.TypeTree.{TypeTree, scalar, vector, data_of, TypeTrees}
use Rattle.chw_types.specs.TypeMoves.{Substitution, sub}
use Rattle.chw_types.specs.Arguments.{arguments}
use Rattle.chw_layout.specs.Datum.{Datum, word, built, elements, Datums, no_data, datum_and}
use Rattle.chw_layout.specs.Measured.{closed_value, HasWidth}
use Rattle.chw_layout.specs.Encodes.{first_constructor}

mutual
  -- the data value of the closed type whose bits are all zero: of data the first constructor
  pub data IsZero (datas : List Data) : TypeTree → Datum → Type 0 where
    zero_scalar : {s : Scalar} {n : TypeTree} → IsZero datas (scalar s n) (word (replicate (closed_value n) false))
    zero_vector : {n t : TypeTree} {ds : Datums} → AreZeros datas (closed_value n) t ds → IsZero datas (vector n t) (elements ds)
    zero_data : {d : ℕ} {it : Data} {con : ConDecl} {ts : TypeTrees} {ds : Datums} → slice_get datas d ≡ Some it → slice_get it.cons zero ≡ Some con → AreZeroFields datas con.fields (arguments ts) ds → IsZero datas (data_of d ts) (built (first_constructor datas d) ds)

  pub data AreZeros (datas : List Data) : ℕ → TypeTree → Datums → Type 0 where
    no_zeros : {t : TypeTree} → AreZeros datas zero t no_data
    zeros_and : {n : ℕ} {t : TypeTree} {d : Datum} {ds : Datums} → IsZero datas t d → AreZeros datas n t ds → AreZeros datas (suc n) t (datum_and d ds)

  pub data AreZeroFields (datas : List Data) : List TypeTree → Substitution → Datums → Type 0 where
    no_zero_field : {σ : Substitution} → AreZeroFields datas [] σ no_data
    zero_field_and : {f : TypeTree} {fs : List TypeTree} {σ : Substitution} {d : Datum} {ds : Datums} → IsZero datas (sub f σ) d → AreZeroFields datas fs σ ds → AreZeroFields datas (f ∷ fs) σ (datum_and d ds)

-- the type has a width, and it isn't 0
abbrev pub IsWide : List Data → TypeTree → Type 0
IsWide datas t = (w : ℕ) × HasWidth datas t (suc w)
