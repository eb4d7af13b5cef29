-- Marks of the wires that are driven, by the numbers of wires.
use Rattle.std.specs.Prelude.{◌≡◌, ℕ, ◌<◌, ◌≤◌, Bool, false, true, List, Some, slice_index_or}
use Rattle.chw_base.specs.declared.index.WireId.{WireId}
use Rattle.net_rules.specs.WellFormed.{wire_driven_at}

-- nothing is marked
abbrev pub IsUnmarked : List Bool → Type 0
IsUnmarked marks = (w : ℕ) → slice_index_or marks w false ≡ false

-- the wires of this list so far are those that are marked, none is an input, and none stands twice
pub record Marks (inputs : ℕ) (driven : List WireId) (marks : List Bool) (so_far : ℕ) : Type 0 where
  pub marked : (p w : ℕ) → p < so_far → wire_driven_at driven p ≡ Some w
      → (inputs ≤ w) × (slice_index_or marks w false ≡ true)
  pub from : (w : ℕ) → slice_index_or marks w false ≡ true
      → (p : ℕ) × (p < so_far) × (wire_driven_at driven p ≡ Some w)
  pub apart : (p q w : ℕ) → p < so_far → q < so_far → wire_driven_at driven p ≡ Some w
      → wire_driven_at driven q ≡ Some w → p ≡ q
