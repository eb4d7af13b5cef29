-- How wide the values of a type are, or the first limit that the type passes.
use Rattle.std.specs.Prelude.{◌≡◌, ℕ, zero, suc, ◌+◌, ◌*◌, ◌^◌, if◌then◌else◌, nat_le, max, List, [], ◌∷◌, length, Some}
use Rattle.std.specs.List.{slice_get}
use Rattle.chw_base.specs.declared.limits.TheConstants.{DATA_BITS, SCALAR_BITS, VECTOR_LENGTH}
use Rattle.chw_types.specs.declared.kind.Scalar.{Scalar}
use Rattle.chw_types.specs.declared.declarations.ConDecl.{ConDecl}
use Rattle.chw_types.specs.declared.declarations.Data.{Data}
use Rattle.chw_types.specs.TypeTree.{TypeTree, scalar, vector, data_of, TypeTrees}
use Rattle.chw_types.specs.TypeMoves.{Substitution, sub}
use Rattle.chw_types.specs.Arguments.{list_of, arguments}
use Rattle.chw_types.specs.Polynomials.{ended}
use Rattle.chw_types.specs.SamePromises.{natural_value}
use Rattle.chw_layout.specs.declared.outcome.NoLayout.{NoLayout}
use Rattle.chw_layout.specs.declared.outcome.NoLayout.TheVariants.{Scalar as OverScalar, Data as OverData, Length as OverLength}

-- the values have this width, or a limit is passed. Widths end at the greatest natural.
pub data Measure : Type 0 where
  fits : ℕ → Measure
  too_wide : NoLayout → Measure

-- the number that a closed natural means
abbrev pub closed_value : TypeTree → ℕ
closed_value = natural_value (λ x. 0)

-- the first width, from this one on, that counts n things, if it is one of so many
abbrev pub first_width : ℕ → ℕ → ℕ → ℕ
first_width zero k n = k
first_width (suc tries) k n = if nat_le n (2 ^ k) then k else first_width tries (k + 1) n

-- the fewest bits that count n constructors
abbrev pub tag_width : ℕ → ℕ
tag_width n = first_width n 0 n

-- a scalar has at most so many bits
abbrev pub scalar_measure : ℕ → Measure
scalar_measure w = if nat_le w SCALAR_BITS then fits w else too_wide (OverScalar w)

-- data and vectors have at most so many bits
abbrev pub data_measure : ℕ → Measure
data_measure w = if nat_le w DATA_BITS then fits w else too_wide (OverData w)

-- a vector of these elements: the element counts before the vector, and the length before the width
abbrev pub vector_measure : ℕ → Measure → Measure
vector_measure n (fits w) = if nat_le n VECTOR_LENGTH then data_measure (ended (n * w)) else too_wide (OverLength n)
vector_measure n (too_wide e) = too_wide e

-- a part before others: their sum, or what is passed first
abbrev pub then_measure : Measure → Measure → Measure
then_measure (fits a) (fits b) = fits (ended (a + b))
then_measure (fits a) (too_wide e) = too_wide e
then_measure (too_wide e) m = too_wide e

-- one of several: the greatest, or what is passed first
abbrev pub or_measure : Measure → Measure → Measure
or_measure (fits a) (fits b) = fits (max a b)
or_measure (fits a) (too_wide e) = too_wide e
or_measure (too_wide e) m = too_wide e

-- data with this tag before the widest constructor
abbrev pub tagged_measure : ℕ → Measure → Measure
tagged_measure tag (fits w) = data_measure (ended (tag + w))
tagged_measure tag (too_wide e) = too_wide e

mutual
  -- the values of the closed type have this measure
  pub data Measured (datas : List Data) : TypeTree → Measure → Type 0 where
    measured_scalar : {s : Scalar} {w : TypeTree} → Measured datas (scalar s w) (scalar_measure (closed_value w))
    measured_vector : {n t : TypeTree} {m : Measure} → Measured datas t m → Measured datas (vector n t) (vector_measure (closed_value n) m)
    measured_data : {d : ℕ} {it : Data} {ts : TypeTrees} {m : Measure} → slice_get datas d ≡ Some it → length (list_of ts) ≡ length it.params → MeasuredCons datas it.cons (arguments ts) m → Measured datas (data_of d ts) (tagged_measure (tag_width (length it.cons)) m)

  -- the widest of these constructors, with this put into the fields, the tag left out
  pub data MeasuredCons (datas : List Data) : List ConDecl → Substitution → Measure → Type 0 where
    no_cons_measured : {σ : Substitution} → MeasuredCons datas [] σ (fits 0)
    con_measured : {c : ConDecl} {cs : List ConDecl} {σ : Substitution} {m n : Measure} → MeasuredFields datas c.fields σ m → MeasuredCons datas cs σ n → MeasuredCons datas (c ∷ cs) σ (or_measure m n)

  -- these fields together, with this put in
  pub data MeasuredFields (datas : List Data) : List TypeTree → Substitution → Measure → Type 0 where
    no_fields_measured : {σ : Substitution} → MeasuredFields datas [] σ (fits 0)
    field_measured : {f : TypeTree} {fs : List TypeTree} {σ : Substitution} {m n : Measure} → Measured datas (sub f σ) m → MeasuredFields datas fs σ n → MeasuredFields datas (f ∷ fs) σ (then_measure m n)

-- the type has values of this width
abbrev pub HasWidth : List Data → TypeTree → ℕ → Type 0
HasWidth datas t w = Measured datas t (fits w)
