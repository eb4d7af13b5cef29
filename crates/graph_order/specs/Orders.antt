-- Orders of the nodes of a graph, and cycles of them.
use Rattle.std.specs.Prelude.{◌≡◌, ℕ, ◌+◌, ◌<◌, ◌≤◌, List, length, map, slice_index, Vec}
use Rattle.std.specs.declared.alloc.Global.{Global}
use Rattle.graph_order.specs.References.{Refers}
use Rattle.graph_order.specs.declared.ordering.Ordering.{Ordering}
use Rattle.graph_order.specs.declared.ordering.Ordering.TheVariants.{Order, Cycle}

-- the numbers in each of some vectors
abbrev pub numbers : List (Vec ℕ Global) → List (List ℕ)
numbers graph = map (λ v. v.items) graph

-- all nodes, each once and after all that it refers to
pub record IsOrder (graph : List (List ℕ)) (nodes : List ℕ) : Type 0 where
  pub size : length nodes ≡ length graph
  pub within : (i : ℕ) → i < length nodes → slice_index nodes i < length graph
  pub once : (i j : ℕ) → i < length nodes → j < length nodes → slice_index nodes i ≡ slice_index nodes j → i ≡ j
  pub all : (node : ℕ) → node < length graph → (i : ℕ) × (i < length nodes) × (slice_index nodes i ≡ node)
  pub after : (j to : ℕ) → j < length nodes → Refers graph (slice_index nodes j) to → (i : ℕ) × (i < j) × (slice_index nodes i ≡ to)

-- each node has a place, and what it refers to has earlier ones
pub record Places (graph : List (List ℕ)) : Type 0 where
  pub place : ℕ → ℕ
  pub within : (node : ℕ) → node < length graph → place node < length graph
  pub earlier : (from to : ℕ) → Refers graph from to → place to < place from

-- some nodes, each once, of which each refers to the next and the last to the first
pub record IsCycle (graph : List (List ℕ)) (nodes : List ℕ) : Type 0 where
  pub some : 0 < length nodes
  pub once : (i j : ℕ) → i < length nodes → j < length nodes → slice_index nodes i ≡ slice_index nodes j → i ≡ j
  pub next : (i : ℕ) → i + 1 < length nodes → Refers graph (slice_index nodes i) (slice_index nodes (i + 1))
  pub closes : (i : ℕ) → i + 1 ≡ length nodes → Refers graph (slice_index nodes i) (slice_index nodes 0)

-- none is less than the first
abbrev pub LeastFirst : List ℕ → Type 0
LeastFirst nodes = (i : ℕ) → i < length nodes → slice_index nodes 0 ≤ slice_index nodes i

-- where an order was answered, this holds of it
abbrev pub OfOrder : Ordering → (List ℕ → Type 0) → Type 0
OfOrder (Order nodes) P = P nodes.items
OfOrder (Cycle nodes) P = Unit {0}

-- where a cycle was answered, this holds of it
abbrev pub OfCycle : Ordering → (List ℕ → Type 0) → Type 0
OfCycle (Order nodes) P = Unit {0}
OfCycle (Cycle nodes) P = P nodes.items
