-- What types come to, as functions and facts for the code. The relation is `Measured`.
use Rattle.std.specs.Prelude.{◌≡◌, ℕ, ◌+◌, ◌*◌, if◌then◌else◌, nat_le, max, List, reverse}
use Rattle.std.specs.Prelude.{Result, Ok, Err}
use Rattle.std.specs.List.{slice_index_or, AllZip}
use Rattle.chw_base.specs.declared.limits.TheConstants.{DATA_BITS, SCALAR_BITS, VECTOR_LENGTH}
use Rattle.chw_base.specs.declared.outcome.Or.{Or}
use Rattle.chw_base.specs.declared.outcome.Or.TheVariants.{Fault}
use Rattle.chw_types.specs.declared.declarations.ConDecl.{ConDecl}
use Rattle.chw_types.specs.declared.declarations.Data.{Data}
use Rattle.chw_types.specs.TypeTree.{TypeTree, data_of, TypeTrees}
use Rattle.chw_types.specs.TypeMoves.{Substitution, sub}
use Rattle.chw_types.specs.Arguments.{list_of}
use Rattle.chw_types.specs.Polynomials.{ended}
use Rattle.chw_layout.specs.declared.outcome.NoLayout.{NoLayout}
use Rattle.chw_layout.specs.declared.outcome.NoLayout.TheVariants.{NotRepresentable}
use Rattle.chw_layout.specs.declared.outcome.NoLayout.TheVariants.{Scalar as OverScalar}
use Rattle.chw_layout.specs.declared.outcome.NoLayout.TheVariants.{Data as OverData}
use Rattle.chw_layout.specs.declared.outcome.NoLayout.TheVariants.{Length as OverLength}
use Rattle.chw_layout.specs.Measured.{Measure, fits, too_wide, closed_value}
use Rattle.chw_layout.specs.Measured.{Measured, MeasuredCons, MeasuredFields}
use Rattle.type_widths.specs.declared.outcome.Limit.{Limit}
use Rattle.type_widths.specs.declared.outcome.Limit.TheVariants.{Scalar, Data as Whole, Length}
use Rattle.type_widths.specs.declared.outcome.Outcome.{Outcome}
use Rattle.type_widths.specs.declared.outcome.Outcome.TheVariants.{Number, Fits, TooWide}

-- why a type that passes this limit has no width
abbrev pub layout_of : Limit → ℕ → NoLayout
layout_of Scalar n = OverScalar n
layout_of Whole n = OverData n
layout_of Length n = OverLength n

-- the width, or why there is none
abbrev pub told_of : Outcome → Result ℕ (Or NoLayout)
told_of (Number n) = Err (Fault NotRepresentable)
told_of (Fits w) = Ok w
told_of (TooWide l n) = Err (Fault (layout_of l n))

-- the number that a type of this outcome means
abbrev pub number_of : Outcome → ℕ
number_of (Number n) = n
number_of (Fits w) = 0
number_of (TooWide l n) = 0

-- the outcome of a variable, where the last argument is the variable 0; past the arguments there is
-- only the number 0
abbrev pub outcome_at : List Outcome → ℕ → Outcome
outcome_at env x = slice_index_or (reverse env) x (Number 0)

-- what the variables mean as naturals
abbrev pub number_at : List Outcome → ℕ → ℕ
number_at env x = number_of (outcome_at env x)

-- a scalar of this width
abbrev pub scalar_outcome : ℕ → Outcome
scalar_outcome w = if nat_le w SCALAR_BITS then Fits w else TooWide Scalar w

-- data or a vector of this width
abbrev pub wide_outcome : ℕ → Outcome
wide_outcome w = if nat_le w DATA_BITS then Fits w else TooWide Whole w

-- a vector of this length, of elements of this outcome
abbrev pub vector_outcome : ℕ → Outcome → Outcome
vector_outcome n (Number k) = Number 0
vector_outcome n (Fits w) =
    if nat_le n VECTOR_LENGTH then wide_outcome (ended (n * w)) else TooWide Length n
vector_outcome n (TooWide l k) = TooWide l k

-- data with a tag of this width before a constructor of this outcome
abbrev pub tagged_outcome : ℕ → Outcome → Outcome
tagged_outcome tag (Number k) = Number 0
tagged_outcome tag (Fits w) = wide_outcome (ended (tag + w))
tagged_outcome tag (TooWide l k) = TooWide l k

-- a field before others
abbrev pub then_outcome : Outcome → Outcome → Outcome
then_outcome (Number n) o = Number 0
then_outcome (Fits a) (Number n) = Number 0
then_outcome (Fits a) (Fits b) = Fits (ended (a + b))
then_outcome (Fits a) (TooWide l n) = TooWide l n
then_outcome (TooWide l n) (Number k) = Number 0
then_outcome (TooWide l n) (Fits b) = TooWide l n
then_outcome (TooWide l n) (TooWide k m) = TooWide l n

-- a constructor before others
abbrev pub or_outcome : Outcome → Outcome → Outcome
or_outcome (Number n) o = Number 0
or_outcome (Fits a) (Number n) = Number 0
or_outcome (Fits a) (Fits b) = Fits (max a b)
or_outcome (Fits a) (TooWide l n) = TooWide l n
or_outcome (TooWide l n) (Number k) = Number 0
or_outcome (TooWide l n) (Fits b) = TooWide l n
or_outcome (TooWide l n) (TooWide k m) = TooWide l n

-- what has such measures comes to this: a number where it has none
abbrev pub Lays : (Measure → Type 0) → Outcome → Type 0
Lays P (Number n) = (m : Measure) → P m → ⊥
Lays P (Fits w) = P (fits w)
Lays P (TooWide l n) = P (too_wide (layout_of l n))

-- the closed type comes to this
pub record Comes (datas : List Data) (t : TypeTree) (o : Outcome) : Type 0 where
  pub as_number : closed_value t ≡ number_of o
  pub as_layout : Lays (Measured datas t) o

-- what is put for each variable comes to the outcome of that variable
abbrev pub Known : List Data → List Outcome → Substitution → Type 0
Known datas env σ = (x : ℕ) → Comes datas (σ x) (outcome_at env x)

-- the type comes to this, whatever of known outcomes is put for its variables
abbrev pub ComesUnder : List Data → List Outcome → TypeTree → Outcome → Type 0
ComesUnder datas env t o = (σ : Substitution) → Known datas env σ → Comes datas (sub t σ) o

-- so do these fields together
abbrev pub FieldsCome : List Data → List Outcome → List TypeTree → Outcome → Type 0
FieldsCome datas env fs o =
    (σ : Substitution) → Known datas env σ → Lays (MeasuredFields datas fs σ) o

-- and the widest of these constructors
abbrev pub ConsCome : List Data → List Outcome → List ConDecl → Outcome → Type 0
ConsCome datas env cs o =
    (σ : Substitution) → Known datas env σ → Lays (MeasuredCons datas cs σ) o

-- the data type comes to this at all arguments of these outcomes
abbrev pub IsOutcomeOf : List Data → ℕ → List Outcome → Outcome → Type 0
IsOutcomeOf datas d os o =
    (ts : TypeTrees) → AllZip (Comes datas) (list_of ts) os → Comes datas (data_of d ts) o
