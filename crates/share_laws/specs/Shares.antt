-- The flat net that is left of another one where each wire is served by one that stands for all
-- equal to it, and only what an output needs is kept; and a flat net as a net of one module.
use Rattle.std.specs.Prelude.{◌≡◌, ◌↔◌, ℕ, ◌+◌, ◌<◌, ◌≤◌, Bool, List, [], ◌∷◌, ◌++◌, length, map}
use Rattle.std.specs.Prelude.{take, Some, slice_get, slice_index}
use Rattle.chw_base.specs.declared.index.WireId.{WireId}
use Rattle.netlist.specs.Feeds.{target}
use Rattle.netlist.specs.NetValue.{HasCell}
use Rattle.netlist.specs.Wires.{read_by}
use Rattle.netlist.specs.declared.net.Cell.{Cell}
use Rattle.netlist.specs.declared.net.Cell.TheVariants.{Const}
use Rattle.netlist.specs.declared.net.Flat.{Flat}
use Rattle.netlist.specs.declared.net.Net.{Net}
use Rattle.share_laws.specs.Same.{Copies, IsKnown, IsOpen, Same, bare}

-- the wire copies no other: it is an input, or its cell copies nothing
pub data IsProper (flat : Flat) (w : ℕ) : Type 0 where
  of_input : w < length flat.ports.inputs → IsProper flat w
  of_cell : (cell : Cell) → HasCell flat cell → target cell ≡ Some w
      → ((a : ℕ) → Copies flat cell a → ⊥) → IsProper flat w

-- the wire stands for all that are equal to it: it is the least of them that copies no other
pub record Stands (flat : Flat) (w : ℕ) : Type 0 where
  pub proper : IsProper flat w
  pub least : (v : ℕ) → IsProper flat v → Same flat v w → w ≤ v

-- the first wire stands for the second
pub record Serves (flat : Flat) (v w : ℕ) : Type 0 where
  pub stands : Stands flat v
  pub same : Same flat v w

-- the wire is needed: it stands for an output, or for a wire that the cell of a needed wire reads,
-- unless the bits of that needed wire are known
pub data IsLive (flat : Flat) : ℕ → Type 0 where
  for_output : (k : ℕ) (o : WireId) (v : ℕ) → slice_get flat.outputs k ≡ Some o
      → Serves flat v o.number → IsLive flat v
  for_cell : (w : ℕ) (cell : Cell) (k : ℕ) (r : WireId) (v : ℕ) → IsLive flat w → IsOpen flat w
      → HasCell flat cell → target cell ≡ Some w → slice_get (read_by cell) k ≡ Some r
      → Serves flat v r.number → IsLive flat v

-- the wire is in this list
abbrev pub IsAmong : List ℕ → ℕ → Type 0
IsAmong wires w = (k : ℕ) × (slice_get wires k ≡ Some w)

-- each number of the list is greater than the one before it, and the first is at least this one
abbrev pub RisesFrom : ℕ → List ℕ → Type 0
RisesFrom least [] = Unit {0}
RisesFrom least (w ∷ wires) = (least ≤ w) × RisesFrom (w + 1) wires

-- the new number of a wire: an input keeps its own, and the kept wires follow the inputs in order
pub data IsNumbered (inputs : ℕ) (kept : List ℕ) (v n : ℕ) : Type 0 where
  as_input : v < inputs → n ≡ v → IsNumbered inputs kept v n
  as_kept : (k : ℕ) → slice_get kept k ≡ Some v → n ≡ inputs + k → IsNumbered inputs kept v n

-- the first wire becomes the second: this is the new number of the wire that stands for the first
pub record Becomes (flat : Flat) (kept : List ℕ) (w n : ℕ) : Type 0 where
  pub by : ℕ
  pub serves : Serves flat by w
  pub numbered : IsNumbered (length flat.ports.inputs) kept by n

-- the wires become the others, one by one
abbrev pub AllBecome : Flat → List ℕ → List WireId → List WireId → Type 0
AllBecome flat kept [] [] = Unit {0}
AllBecome flat kept (w ∷ wires) (n ∷ others) =
    Becomes flat kept w.number n.number × AllBecome flat kept wires others
AllBecome flat kept _ _ = ⊥

-- the cell of a kept wire after sharing, where the wire has this new number
pub data IsSharedCell (flat : Flat) (kept : List ℕ) (w n : ℕ) (shared : Cell) : Type 0 where
  -- a constant, where the wire's bits are known
  as_constant : (bits : List Bool) → IsKnown flat w bits
      → shared ≡ Const (record { number = n }) bits → IsSharedCell flat kept w n shared
  -- else its own cell, which reads what its wires become
  as_own : (cell : Cell) → IsOpen flat w → HasCell flat cell → target cell ≡ Some w
      → bare cell ≡ bare shared → target shared ≡ Some n
      → AllBecome flat kept (read_by cell) (read_by shared) → IsSharedCell flat kept w n shared

-- the cells of these kept wires, whose new numbers begin with this one
abbrev pub AreSharedCells : Flat → List ℕ → ℕ → List ℕ → List Cell → Type 0
AreSharedCells flat kept n [] [] = Unit {0}
AreSharedCells flat kept n (w ∷ wires) (cell ∷ cells) =
    IsSharedCell flat kept w n cell × AreSharedCells flat kept (n + 1) wires cells
AreSharedCells flat kept n _ _ = ⊥

-- the second flat net is the first one, shared: it has the ports and the inputs of the first, and
-- the needed wires that are no inputs, in order of their numbers
pub record Shares (flat shared : Flat) : Type 0 where
  pub ports : shared.ports ≡ flat.ports
  pub kept : List ℕ
  pub rises : RisesFrom (length flat.ports.inputs) kept
  pub live : (w : ℕ) → IsAmong kept w ↔ (IsLive flat w × (length flat.ports.inputs ≤ w))
  pub widths : shared.widths
      ≡ take (length flat.ports.inputs) flat.widths ++ map (λ w. slice_index flat.widths w) kept
  pub outputs : AllBecome flat kept flat.outputs shared.outputs
  pub cells : AreSharedCells flat kept (length flat.ports.inputs) kept shared.cells

-- a flat net as a net of one module
abbrev pub as_net : Flat → Net
as_net flat = record {
  ports = flat.ports;
  modules = record {
    inputs = length flat.ports.inputs;
    widths = flat.widths;
    outputs = flat.outputs;
    cells = flat.cells;
  } ∷ [];
}
