-- Cycles of steps.
use Rattle.std.specs.Prelude.{◌≡◌, ℕ, ◌+◌, ◌<◌, List, length, slice_index}

-- some nodes, each once, of which each leads to the next by a step and the last to the first
pub record IsCycleOf (Step : ℕ → ℕ → Type 0) (nodes : List ℕ) : Type 0 where
  pub some : 0 < length nodes
  pub once : (i j : ℕ) → i < length nodes → j < length nodes → slice_index nodes i ≡ slice_index nodes j → i ≡ j
  pub next : (i : ℕ) → i + 1 < length nodes → Step (slice_index nodes i) (slice_index nodes (i + 1))
  pub closes : (i : ℕ) → i + 1 ≡ length nodes → Step (slice_index nodes i) (slice_index nodes 0)
