-- Worked examples of where a step is sought.
use Rattle.std.specs.Prelude.{ℕ, List, [], ◌∷◌}
use Rattle.step_order.specs.Sought.{IsSoughtPath}

-- the search begins at the first child of the second child
abbrev pub from_here : List ℕ
from_here = 1 ∷ 0 ∷ []

-- the place itself is sought, and what is below it
abbrev pub PlaceIsSought : Type 0
PlaceIsSought = IsSoughtPath from_here from_here

abbrev pub BelowIsSought : Type 0
BelowIsSought = IsSoughtPath (1 ∷ 0 ∷ 3 ∷ []) from_here

-- what is above it is sought, since a change may make it an instance
abbrev pub AboveIsSought : Type 0
AboveIsSought = IsSoughtPath (1 ∷ []) from_here

-- a later child is sought
abbrev pub LaterIsSought : Type 0
LaterIsSought = IsSoughtPath (2 ∷ []) from_here

-- an earlier child isn't, nor is what is below it
abbrev pub EarlierIsPassed : Type 0
EarlierIsPassed = IsSoughtPath (0 ∷ []) from_here → ⊥

abbrev pub BelowEarlierIsPassed : Type 0
BelowEarlierIsPassed = IsSoughtPath (0 ∷ 5 ∷ []) from_here → ⊥
