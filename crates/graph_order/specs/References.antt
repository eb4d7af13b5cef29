-- References among nodes. A graph is a list with the numbers that each node names, by the number of the node.
use Rattle.std.specs.Prelude.{◌≡◌, ℕ, ◌<◌, List, [], length, Option, Some, option_and_then, slice_index_or}
use Rattle.std.specs.List.{Contains, slice_get}

-- how many numbers a node names
abbrev pub reference_count : List (List ℕ) → ℕ → ℕ
reference_count graph node = length (slice_index_or graph node [])

-- one of these numbers
abbrev pub reference_at : List (List ℕ) → ℕ → ℕ → Option ℕ
reference_at graph node k = option_and_then (λ names. slice_get names k) (slice_get graph node)

-- the first node refers to the second: it names the number of the second, and this is a node
pub record Refers (graph : List (List ℕ)) (from to : ℕ) : Type 0 where
  pub names : List ℕ
  pub are_names : slice_get graph from ≡ Some names
  pub is_named : Contains names to
  pub is_node : to < length graph

-- one or more steps lead from one to the other
pub data Leads (Step : ℕ → ℕ → Type 0) : ℕ → ℕ → Type 0 where
  step : {a b : ℕ} → Step a b → Leads Step a b
  step_and : {a b c : ℕ} → Step a b → Leads Step b c → Leads Step a c

-- no steps lead from anywhere back to it
abbrev pub HasNoCycle : (ℕ → ℕ → Type 0) → Type 0
HasNoCycle Step = (a : ℕ) → Leads Step a a → ⊥
