-- The term below the leading lambdas of a made definition, and another term in its place.
use Rattle.std.specs.Prelude.{◌≡◌, ℕ, ◌<◌, true, List, [], Some, set}
use Rattle.std.specs.List.{slice_get}
use Rattle.chw_terms.specs.declared.program.Program.{Program}
use Rattle.chw_terms.specs.declared.rule.Rule.{Rule}
use Rattle.chw_terms.specs.declared.scene.Made.{Made}
use Rattle.chw_terms.specs.TermTree.{TermTree}
use Rattle.chw_typing.specs.Paths.{with_part}
use Rattle.rewriting.specs.Named.{UnderLambdas, mode_of}
use Rattle.rewriting.specs.Origins.{MadeOf, made_of}
use Rattle.rewriting.specs.Spots.{Spot, spot}
use Rattle.rewriting.specs.Steps.{Where, HasStepBy}

-- the term is the top of a made definition with this body: it stands below the leading lambdas, at
-- this path and at this spot, that of a result
pub record IsTop (it : MadeOf) (body : TermTree) (path : List ℕ) (at : Spot) (e : TermTree)
    : Type 0 where
  pub under : UnderLambdas [] body it.ty path at.vars e
  pub stands : at ≡ spot (mode_of it.sort) true at.vars

-- so in the made definition of this number
pub record IsTopIn (made : List Made) (m : ℕ) (it : Made) (path : List ℕ) (at : Spot)
    (e : TermTree) : Type 0 where
  pub is : slice_get made m ≡ Some it
  pub top : IsTop (made_of it) it.body path at e

-- the made definition with another term at the path
abbrev pub put_at : Made → List ℕ → TermTree → Made
put_at it path new = record it { body = with_part it.body path new }

-- the state with it as the made definition of this number
abbrev pub put_in : List Made → ℕ → Made → List ℕ → TermTree → List Made
put_in made m it path new = set made m (put_at it path new)

-- no made definition before that of this number has a step
abbrev pub HasNoStepBefore : List Rule → Program → List Made → ℕ → Type 0
HasNoStepBefore rules p made m =
    (v : Where) (new : TermTree) → HasStepBy rules p made v new → v.number < m → ⊥

-- that of this number has none
abbrev pub HasNoStepIn : List Rule → Program → List Made → ℕ → Type 0
HasNoStepIn rules p made m =
    (v : Where) (new : TermTree) → HasStepBy rules p made v new → v.number ≡ m → ⊥
