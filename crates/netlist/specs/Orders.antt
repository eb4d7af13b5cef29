-- Orders of the cells of a flat net, and loops of its wires.
use Rattle.std.specs.Prelude.{◌≡◌, ℕ, ◌+◌, ◌<◌, ◌≤◌, List, length, map, Some, slice_index}
use Rattle.chw_base.specs.declared.index.WireId.{WireId}
use Rattle.netlist.specs.Feeds.{awaited_at, target_at, Feeds}
use Rattle.netlist.specs.declared.net.Cell.{Cell}
use Rattle.netlist.specs.declared.net.Flat.{Flat}

-- the places of all cells, each once, and each cell but a register or RAM after those that drive what it reads
pub record OrdersCells (cells : List Cell) (places : List ℕ) : Type 0 where
  pub within : (i : ℕ) → i < length places → slice_index places i < length cells
  pub once : (i j : ℕ) → i < length places → j < length places → slice_index places i ≡ slice_index places j → i ≡ j
  pub all : (place : ℕ) → place < length cells → (i : ℕ) × (i < length places) × (slice_index places i ≡ place)
  pub after : (j k w place : ℕ) → j < length places → awaited_at cells (slice_index places j) k ≡ Some w → target_at cells place ≡ Some w
      → (i : ℕ) × (i < j) × (slice_index places i ≡ place)

abbrev pub IsOrder : Flat → List ℕ → Type 0
IsOrder flat places = OrdersCells flat.cells places

-- some wires, each once, each read by the cell that drives the next and the last by the cell that drives the first. None of these
-- cells is a register or RAM.
pub record IsCycle (cells : List Cell) (wires : List ℕ) : Type 0 where
  pub some : 0 < length wires
  pub once : (i j : ℕ) → i < length wires → j < length wires → slice_index wires i ≡ slice_index wires j → i ≡ j
  pub feeds : (i : ℕ) → i + 1 < length wires → Feeds cells (slice_index wires i) (slice_index wires (i + 1))
  pub closes : (i : ℕ) → i + 1 ≡ length wires → Feeds cells (slice_index wires i) (slice_index wires 0)

-- no wire has a lesser number than the first
abbrev pub LeastFirst : List ℕ → Type 0
LeastFirst wires = (i : ℕ) → i < length wires → slice_index wires 0 ≤ slice_index wires i

abbrev pub wire_numbers : List WireId → List ℕ
wire_numbers wires = map (λ w. w.number) wires

-- a loop: a cycle of wires with the least one first
abbrev pub IsLoop : Flat → List WireId → Type 0
IsLoop flat cycle = IsCycle flat.cells (wire_numbers cycle) × LeastFirst (wire_numbers cycle)

-- no wires are a loop
abbrev pub HasNoLoop : Flat → Type 0
HasNoLoop flat = (cycle : List WireId) → IsLoop flat cycle → ⊥
