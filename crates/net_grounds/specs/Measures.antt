-- What is promised of measures of types.
use Rattle.std.specs.List.{slice_get}
use Rattle.std.specs.Prelude.{List, Some, [], length, max, ℕ, ◌+◌, ◌∷◌, ◌≡◌, ◌≤◌}
use Rattle.chw_base.specs.declared.limits.TheConstants.{DATA_BITS}
use Rattle.chw_layout.specs.Measured.{Measure, Measured, MeasuredCons, MeasuredFields, closed_value}
use Rattle.chw_layout.specs.Measured.{fits, or_measure, scalar_measure, tag_width, tagged_measure}
use Rattle.chw_layout.specs.Measured.{then_measure, too_wide, vector_measure}
use Rattle.chw_types.specs.Arguments.{arguments, list_of}
use Rattle.chw_types.specs.Polynomials.{ended}
use Rattle.chw_types.specs.TypeMoves.{Substitution}
use Rattle.chw_types.specs.TypeTree.{TypeTree, TypeTrees, data_of, scalar, vector}
use Rattle.chw_types.specs.declared.declarations.ConDecl.{ConDecl}
use Rattle.chw_types.specs.declared.declarations.Data.{Data}
use Rattle.chw_types.specs.declared.kind.Scalar.{Scalar}

-- two measures are widths, and this is the greater one
pub record Widest (m n : Measure) (s : ℕ) : Type 0 where
  pub a : ℕ
  pub b : ℕ
  pub one : m ≡ fits a
  pub others : n ≡ fits b
  pub is : s ≡ max a b

-- two measures are widths, and this is what their sum ends at
pub record Summed (m n : Measure) (s : ℕ) : Type 0 where
  pub a : ℕ
  pub b : ℕ
  pub one : m ≡ fits a
  pub others : n ≡ fits b
  pub is : s ≡ ended (a + b)

-- a constructor and those after it
pub record ConMeasured
    (datas : List Data) (c : ConDecl) (cs : List ConDecl) (σ : Substitution) (m : Measure) : Type 0
  where
    pub one : Measure
    pub others : Measure
    pub first : MeasuredFields datas c.fields σ one
    pub rest : MeasuredCons datas cs σ others
    pub is : m ≡ or_measure one others

-- a width is at most this
abbrev pub IsWithin : ℕ → Measure → Type 0
IsWithin most (fits w) = w ≤ most
IsWithin most (too_wide e) = Unit {0}

-- the constructors of a data type have a measure
pub record ConsMeasured (datas : List Data) (d : ℕ) (ts : TypeTrees) (m : Measure) : Type 0 where
  pub it : Data
  pub known : slice_get datas d ≡ Some it
  pub as_many : length (list_of ts) ≡ length it.params
  pub of : Measure
  pub measured : MeasuredCons datas it.cons (arguments ts) of
  pub is : m ≡ tagged_measure (tag_width (length it.cons)) of

-- the element of a vector has a measure
pub record ElementMeasured (datas : List Data) (n t : TypeTree) (m : Measure) : Type 0 where
  pub of : Measure
  pub measured : Measured datas t of
  pub is : m ≡ vector_measure (closed_value n) of

-- facts on measures of types
pub record MeasureFacts : Type 0 where
  -- a scalar has the measure of its width
  pub scalar_measured :
      {datas : List Data} {s : Scalar} {w : TypeTree} {m : Measure}
      → Measured datas (scalar s w) m → m ≡ scalar_measure (closed_value w)
  -- a vector has one by that of its elements
  pub vector_measured :
      {datas : List Data} {n t : TypeTree} {m : Measure}
      → Measured datas (vector n t) m → ElementMeasured datas n t m
  -- a data type has one by that of its constructors
  pub data_measured :
      {datas : List Data} {d : ℕ} {ts : TypeTrees} {m : Measure}
      → Measured datas (data_of d ts) m → ConsMeasured datas d ts m
  -- a width is at most the limit
  pub measured_within :
      {datas : List Data} {t : TypeTree} {m : Measure}
      → Measured datas t m → IsWithin DATA_BITS m
  -- no constructors have the width 0
  pub no_cons :
      {datas : List Data} {σ : Substitution} {m : Measure}
      → MeasuredCons datas [] σ m → m ≡ fits 0
  -- constructors have a measure by the first and by the others
  pub next_con :
      {datas : List Data} {c : ConDecl} {cs : List ConDecl} {σ : Substitution} {m : Measure}
      → MeasuredCons datas (c ∷ cs) σ m → ConMeasured datas c cs σ m
  -- no fields have the width 0
  pub no_fields :
      {datas : List Data} {σ : Substitution} {m : Measure}
      → MeasuredFields datas [] σ m → m ≡ fits 0
  -- fields have one measure
  pub fields_once :
      {datas : List Data} {fs : List TypeTree} {σ : Substitution} {m n : Measure}
      → MeasuredFields datas fs σ m → MeasuredFields datas fs σ n → m ≡ n
  -- where two measures one after the other fit, each fits
  pub then_fits : (m n : Measure) (s : ℕ) → fits s ≡ then_measure m n → Summed m n s
  -- where the greater of two measures fits, each fits
  pub or_fits : (m n : Measure) (s : ℕ) → fits s ≡ or_measure m n → Widest m n s
