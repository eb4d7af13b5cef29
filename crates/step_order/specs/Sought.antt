-- From which place on a step is sought.
use Rattle.std.specs.Prelude.{◌≡◌, ◌⊎◌, ℕ, ◌<◌, List, ◌++◌}
use Rattle.chw_typing.specs.Paths.{IsEarlier}
use Rattle.rewriting.specs.Steps.{Where}

-- not earlier than the place at which the search begins, or above it
abbrev pub IsSoughtPath : List ℕ → List ℕ → Type 0
IsSoughtPath path from = (IsEarlier path from → ⊥) ⊎ ((rest : List ℕ) × (from ≡ path ++ rest))

-- in a later made definition, or in this one there
abbrev pub IsSought : ℕ → List ℕ → Where → Type 0
IsSought m from w = (m < w.number) ⊎ ((m ≡ w.number) × IsSoughtPath w.path from)
