-- Where a search begins below a place.
use Rattle.std.specs.Prelude.{◌≡◌, ◌⊎◌, ℕ, ◌<◌, List, [], ◌++◌}
use Rattle.step_order.specs.Sought.{IsSoughtPath}

-- all places at or below this path are earlier
abbrev pub IsPassed : List ℕ → List ℕ → Type 0
IsPassed path from = (q : List ℕ) → IsSoughtPath (path ++ q) from → ⊥

-- below this path the search begins at what is left
abbrev pub BeginsAt : List ℕ → List ℕ → List ℕ → Type 0
BeginsAt path from left =
    ((q : List ℕ) → IsSoughtPath (path ++ q) from → IsSoughtPath q left)
    × ((q : List ℕ) → IsSoughtPath q left → IsSoughtPath (path ++ q) from)

-- in the made definition of the place the search begins at its path, and in later ones at the root
abbrev pub BeginsIn : ℕ → ℕ → List ℕ → List ℕ → Type 0
BeginsIn n m from left = ((n ≡ m) × (left ≡ from)) ⊎ ((m < n) × (left ≡ []))
