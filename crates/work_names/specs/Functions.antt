-- Functions of values, and lifted functions that get a lambda for each parameter.
use Rattle.std.specs.Prelude.{◌≡◌, ◌<◌, List, ◌∷◌, length, Option, MatchOption}
use Rattle.std.specs.List.{AllByRecursion}
use Rattle.chw_types.specs.declared.declarations.Data.{Data}
use Rattle.type_ports.specs.Representable.{Representable}
use Rattle.chw_types.specs.TypeTree.{TypeTree}
use Rattle.chw_terms.specs.TermTree.{TermTree}
use Rattle.chw_typing.specs.HeadTypes.{from_each}
use Rattle.rewriting.specs.Origins.{Origins}
use Rattle.rewriting.specs.Spots.{Spot}
use Rattle.rewriting.specs.Shapes.{leading_lambdas}
use Rattle.rewriting.specs.Signals.{IsLifted}

-- a type of functions of values of these types, the first one first, which give a value
pub record IsOfValues (datas : List Data) (t : TypeTree) (params : List TypeTree) : Type 0 where
  pub gives : TypeTree
  pub is : t ≡ from_each params gives
  pub takes : AllByRecursion (Representable datas) params
  pub result : Representable datas gives

-- the answer is the parameters' types, or nothing where it is no such type
abbrev pub AnswersParameters : List Data → TypeTree → Option (List TypeTree) → Type 0
AnswersParameters datas t answer =
    MatchOption answer
    ((params : List TypeTree) → IsOfValues datas t params → ⊥)
    (λ params. IsOfValues datas t params)

-- a lifted function of these parameters that lacks a lambda for one
pub record LacksLambdas (o : Origins) (at : Spot) (g : TermTree) (params : List TypeTree) : Type 0
  where
    pub first : TypeTree
    pub others : List TypeTree
    pub gives : TypeTree
    pub are : params ≡ first ∷ others
    pub lifted : IsLifted o at g first others gives
    pub lacks : leading_lambdas g < length params

-- the answer is the parameters' types, or nothing where the function is none of these
abbrev pub AnswersLambdas : Origins → Spot → TermTree → Option (List TypeTree) → Type 0
AnswersLambdas o at g answer =
    MatchOption answer
    ((params : List TypeTree) → LacksLambdas o at g params → ⊥)
    (λ params. LacksLambdas o at g params)
