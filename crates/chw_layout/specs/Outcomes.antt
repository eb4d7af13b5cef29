-- What types come to, as functions and facts for the code. The relation is `Measured`.
use Rattle.std.specs.Prelude.{◌≡◌, ℕ, zero, suc, List, [], ◌∷◌, length, reverse, Some}
use Rattle.std.specs.List.{slice_get, slice_index_or}
use Rattle.chw_types.specs.declared.declarations.Data.{Data}
use Rattle.chw_types.specs.declared.declarations.ConDecl.{ConDecl}
use Rattle.chw_types.specs.TypeTree.{TypeTree, data_of, TypeTrees}
use Rattle.chw_types.specs.TypeMoves.{Substitution, sub}
use Rattle.chw_types.specs.Arguments.{list_of, all_fields}
use Rattle.chw_types.specs.References.{Mentions, MentionedIn}
use Rattle.chw_layout.specs.declared.outcome.Outcome.{Outcome}
use Rattle.chw_layout.specs.declared.outcome.Outcome.TheVariants.{Number, Fits, TooWide}
use Rattle.chw_layout.specs.declared.remembered.Instance.{Instance}
use Rattle.chw_layout.specs.Measured.{Measure, fits, too_wide, closed_value, Measured, MeasuredCons, MeasuredFields}

-- the outcome of a type of this measure
abbrev pub laid : Measure → Outcome
laid (fits w) = Fits w
laid (too_wide e) = TooWide e

-- the number that a type of this outcome means
abbrev pub number_of : Outcome → ℕ
number_of (Number n) = n
number_of (Fits w) = 0
number_of (TooWide e) = 0

-- the outcome of a variable, where the last argument is the variable 0; past the arguments there is only the number 0
abbrev pub outcome_at : List Outcome → ℕ → Outcome
outcome_at env x = slice_index_or (reverse env) x (Number 0)

-- what the variables mean as naturals
abbrev pub number_at : List Outcome → ℕ → ℕ
number_at env x = number_of (outcome_at env x)

-- the outcome tells the number of the closed type, and its measure if it has one
pub record Comes (datas : List Data) (t : TypeTree) (o : Outcome) : Type 0 where
  pub as_number : closed_value t ≡ number_of o
  pub as_layout : (m : Measure) → Measured datas t m → o ≡ laid m

-- what is put for each variable has the outcome of that variable
abbrev pub Known : List Data → List Outcome → Substitution → Type 0
Known datas env σ = (x : ℕ) → Comes datas (σ x) (outcome_at env x)

-- the type has the outcome, whatever of known outcomes is put for its variables
abbrev pub ComesUnder : List Data → List Outcome → TypeTree → Outcome → Type 0
ComesUnder datas env t o = (σ : Substitution) → Known datas env σ → Comes datas (sub t σ) o

-- so do these fields together
abbrev pub FieldsCome : List Data → List Outcome → List TypeTree → Outcome → Type 0
FieldsCome datas env fs o = (σ : Substitution) → Known datas env σ → (m : Measure) → MeasuredFields datas fs σ m → o ≡ laid m

-- and the widest of these constructors
abbrev pub ConsCome : List Data → List Outcome → List ConDecl → Outcome → Type 0
ConsCome datas env cs o = (σ : Substitution) → Known datas env σ → (m : Measure) → MeasuredCons datas cs σ m → o ≡ laid m

-- these types have these outcomes, in order
abbrev pub AllCome : List Data → List TypeTree → List Outcome → Type 0
AllCome datas [] [] = Unit {0}
AllCome datas (t ∷ ts) (o ∷ os) = Comes datas t o × AllCome datas ts os
AllCome datas [] (o ∷ os) = ⊥
AllCome datas (t ∷ ts) [] = ⊥

-- the data type has the outcome at all arguments of these outcomes
abbrev pub IsOutcomeOf : List Data → ℕ → List Outcome → Outcome → Type 0
IsOutcomeOf datas d os o = (ts : TypeTrees) → AllCome datas (list_of ts) os → Comes datas (data_of d ts) o

-- the constructors of the data type, which has so many parameters
abbrev pub HasCons : List Data → ℕ → ℕ → List ConDecl → Type 0
HasCons datas d n cs = (it : Data) × (slice_get datas d ≡ Some it) × (n ≡ length it.params) × (cs ≡ it.cons)

-- there is no data type of this number with so many parameters
abbrev pub HasNoCons : List Data → ℕ → ℕ → Type 0
HasNoCons datas d n = (it : Data) → slice_get datas d ≡ Some it → n ≡ length it.params → ⊥

-- a measure of what has parts, as an outcome by the outcome of the parts
abbrev pub after : (Measure → Measure) → Outcome → Outcome
after f (Number n) = Number 0
after f (Fits w) = laid (f (fits w))
after f (TooWide e) = TooWide e

-- what is remembered is so
abbrev pub AreRight : List Data → List Instance → Type 0
AreRight datas [] = Unit {0}
AreRight datas (e ∷ es) = IsOutcomeOf datas e.at e.outs.items e.outcome × AreRight datas es

-- from the data type lead only chains of references that are shorter than this
abbrev pub ReachesAt : List Data → ℕ → ℕ → Type 0
ReachesAt datas zero d = (it : Data) → slice_get datas d ≡ Some it → ⊥
ReachesAt datas (suc n) d = (it : Data) → slice_get datas d ≡ Some it → (e : ℕ) → MentionedIn (all_fields it.cons) e → ReachesAt datas n e

-- the same of all data types in the type
abbrev pub Reaches : List Data → ℕ → TypeTree → Type 0
Reaches datas n t = (d : ℕ) → Mentions t d → ReachesAt datas n d

-- and in these types
abbrev pub AllReach : List Data → ℕ → List TypeTree → Type 0
AllReach datas n ts = (d : ℕ) → MentionedIn ts d → ReachesAt datas n d
