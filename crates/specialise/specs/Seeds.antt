-- What a call, or a lifted function, becomes a made definition of.
use Rattle.std.specs.Prelude.{◌≡◌, ℕ, ◌≤◌, List, ◌∷◌, length, Option, None, Some, MatchOption}
use Rattle.std.specs.List.{AllByRecursion}
use Rattle.chw_types.specs.declared.declarations.Data.{Data}
use Rattle.type_ports.specs.Representable.{Representable}
use Rattle.chw_types.specs.TypeTree.{TypeTree}
use Rattle.chw_terms.specs.declared.program.Program.{Program}
use Rattle.chw_terms.specs.declared.scene.Made.{Made}
use Rattle.chw_terms.specs.TermTree.{TermTree}
use Rattle.chw_typing.specs.HeadTypes.{from_each}
use Rattle.rewriting.specs.Origins.{MadeOf, Origins}
use Rattle.rewriting.specs.Spots.{Spot}
use Rattle.made_table.specs.Held.{HoldsNone, IsFirstOf}
use Rattle.rewriting.specs.Calls.{IsCall, call_origin}
use Rattle.rewriting.specs.Runs.{opened, sort_at}
use Rattle.rewriting.specs.Shapes.{leading_lambdas}
use Rattle.rewriting.specs.Signals.{IsLifted}
use Rattle.specialise.specs.declared.numbers.Seed.{Seed}

abbrev pub made_of_seed : Seed → MadeOf
made_of_seed s = record { origin = s.origin; ty = s.ty; sort = s.sort }

-- the call becomes a made definition of this
pub record IsOfCall (o : Origins) (at : Spot) (e : TermTree) (it : MadeOf) : Type 0 where
  pub types : List TypeTree
  pub gives : TypeTree
  pub call : IsCall o at e types gives
  pub is : it ≡ record {
    origin = call_origin o types e;
    ty = from_each types gives;
    sort = sort_at at.mode;
  }

-- the answer is that, or nothing where the term is no such call
abbrev pub AnswersCall : Origins → Spot → TermTree → Option Seed → Type 0
AnswersCall o at e answer =
    MatchOption answer
    ((types : List TypeTree) (gives : TypeTree) → IsCall o at e types gives → ⊥)
    (λ s. IsOfCall o at e (made_of_seed s))

-- a type of functions of values of these types, the first one first, which give a value
pub record IsOfValues (datas : List Data) (t : TypeTree) (params : List TypeTree) : Type 0 where
  pub gives : TypeTree
  pub is : t ≡ from_each params gives
  pub takes : AllByRecursion (Representable datas) params
  pub result : Representable datas gives

-- the answer is how many parameters there are, or nothing where it is no such type
abbrev pub AnswersCount : List Data → TypeTree → Option ℕ → Type 0
AnswersCount datas t answer =
    MatchOption answer
    ((params : List TypeTree) → IsOfValues datas t params → ⊥)
    (λ n. (params : List TypeTree) × (n ≡ length params) × IsOfValues datas t params)

-- a lifted function of this type with a lambda for each parameter
pub record HasLambdas (o : Origins) (at : Spot) (g : TermTree) (ty : TypeTree) : Type 0 where
  pub first : TypeTree
  pub others : List TypeTree
  pub gives : TypeTree
  pub is : ty ≡ from_each (first ∷ others) gives
  pub lifted : IsLifted o at g first others gives
  pub lambdas : length (first ∷ others) ≤ leading_lambdas g

-- the answer is its type, or nothing where the function is none of these
abbrev pub AnswersLambdas : Origins → Spot → TermTree → Option TypeTree → Type 0
AnswersLambdas o at g answer =
    MatchOption answer ((t : TypeTree) → HasLambdas o at g t → ⊥) (λ t. HasLambdas o at g t)

-- the number of the made definition of this, and the definition where none has the origin
abbrev pub IsNumbered : Program → List Made → MadeOf → ℕ → Option Made → Type 0
IsNumbered p made it m None = IsFirstOf made it.origin m
IsNumbered p made it m (Some new) =
    HoldsNone made it.origin × (m ≡ length made) × (new ≡ opened p it)
