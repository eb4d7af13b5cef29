-- Loops over lists that stop at the first item that isn't as it should be.
use Rattle.std.proofs.Common.{◌≡◌, ℕ, ◌<◌, List, Some}
use Rattle.std.specs.List.{slice_get}

-- this holds of the first items, so many
abbrev pub HoldsBelow : {X : Type 0} → (ℕ → X → Type 0) → List X → ℕ → Type 0
HoldsBelow {X} H xs i = (k : ℕ) (x : X) → k < i → slice_get xs k ≡ Some x → H k x
