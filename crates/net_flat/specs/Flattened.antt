-- The flat net of a net: one module with the wires and cells of all instances.
use Rattle.std.specs.Prelude.{◌≡◌, ◌↔◌, ℕ, ◌+◌, ◌==◌, List, [], ◌∷◌, ◌++◌, length, map, reverse}
use Rattle.std.specs.Prelude.{Some, slice_get, flat_map, if◌then◌else◌}
use Rattle.chw_base.specs.declared.index.ModId.{ModId}
use Rattle.chw_base.specs.declared.index.WireId.{WireId}
use Rattle.netlist.specs.Sound.{DrivesFrom}
use Rattle.netlist.specs.declared.net.Cell.{Cell}
use Rattle.netlist.specs.declared.net.Cell.TheVariants.{Const, Copy, Join, Cut, Un, Bin, Mux}
use Rattle.netlist.specs.declared.net.Cell.TheVariants.{Reg, Ram, Use}
use Rattle.netlist.specs.declared.net.Flat.{Flat}
use Rattle.netlist.specs.declared.net.Module.{Module}
use Rattle.netlist.specs.declared.net.Net.{Net}

-- the widths of the flat wires of a use, by those of each module
abbrev pub widths_of_use : (ℕ → List ℕ) → Cell → List ℕ
widths_of_use widths_of (Use k reads drives) = widths_of k.number
widths_of_use widths_of _ = []

-- the widths of the flat wires of an instance of the module of this number, among these modules,
-- the last one first: its own wires, then those of each of its uses, in order of cells
unfoldable pub instance_widths : List Module → ℕ → List ℕ
instance_widths [] k = []
instance_widths (m ∷ earlier) k =
    if k == length earlier
    then m.widths ++ flat_map (widths_of_use (instance_widths earlier)) m.cells
    else instance_widths earlier k

-- the same, among the modules of a net
abbrev pub widths_in : Net → ℕ → List ℕ
widths_in net k = instance_widths (reverse net.modules) k

-- a use of a module among cells: the cells before it, the module, what it reads and what it drives
pub record IsUse (cells before : List Cell) (k : ModId) (reads drives : List WireId) : Type 0 where
  pub after : List Cell
  pub stands : cells ≡ before ++ Use k reads drives ∷ after

-- how many flat wires stand before those of a use, counted from its user's first wire: the user's
-- own wires and those of the uses before it
abbrev pub wires_before : Net → Module → List Cell → ℕ
wires_before net m before =
    length m.widths + length (flat_map (widths_of_use (widths_in net)) before)

-- an instance of a module: its first flat wire, and the module's number
pub data IsInstance (net : Net) : ℕ → ℕ → Type 0 where
  top : (i : ℕ) → i + 1 ≡ length net.modules → IsInstance net 0 i
  used : (base i : ℕ) (m : Module) (before : List Cell) (k : ModId) (reads drives : List WireId)
      → IsInstance net base i → slice_get net.modules i ≡ Some m
      → IsUse m.cells before k reads drives
      → IsInstance net (base + wires_before net m before) k.number

-- the flat wire of a wire of an instance
abbrev pub wire_from : ℕ → WireId → WireId
wire_from base w = record { number = base + w.number }

-- a cell of a module, among the flat wires of an instance
abbrev pub moved : ℕ → Cell → Cell
moved base (Const w bits) = Const (wire_from base w) bits
moved base (Copy w a) = Copy (wire_from base w) (wire_from base a)
moved base (Join w parts) = Join (wire_from base w) (map (wire_from base) parts)
moved base (Cut w a high low) = Cut (wire_from base w) (wire_from base a) high low
moved base (Un w op a) = Un (wire_from base w) op (wire_from base a)
moved base (Bin w op a b) = Bin (wire_from base w) op (wire_from base a) (wire_from base b)
moved base (Mux w c a b) =
    Mux (wire_from base w) (wire_from base c) (wire_from base a) (wire_from base b)
moved base (Reg w domain initial a) = Reg (wire_from base w) domain initial (wire_from base a)
moved base (Ram w domain words inputs) = Ram (wire_from base w) domain words (record {
  read = wire_from base inputs.read;
  enable = wire_from base inputs.enable;
  place = wire_from base inputs.place;
  value = wire_from base inputs.value;
})
moved base (Use k reads drives) = Use k (map (wire_from base) reads) (map (wire_from base) drives)

-- the cell is no use of a module
abbrev pub NoUse : Cell → Type 0
NoUse (Use k reads drives) = ⊥
NoUse _ = Unit {0}

-- a cell of the flat net
pub data IsFlatCell (net : Net) : Cell → Type 0 where
  -- a cell of an instance that is no use
  own : (base i place : ℕ) (m : Module) (cell : Cell)
      → IsInstance net base i → slice_get net.modules i ≡ Some m
      → slice_get m.cells place ≡ Some cell → NoUse cell → IsFlatCell net (moved base cell)
  -- an input of a used instance copies the wire that the use reads
  input : (base i : ℕ) (m : Module) (before : List Cell) (k : ModId) (reads drives : List WireId)
      → IsInstance net base i → slice_get net.modules i ≡ Some m
      → IsUse m.cells before k reads drives
      → (j : ℕ) (r : WireId) → slice_get reads j ≡ Some r
      → IsFlatCell net (Copy
      (record { number = base + wires_before net m before + j }) (wire_from base r))
  -- a wire that a use drives copies the output of the used instance
  output : (base i : ℕ) (m : Module) (before : List Cell) (k : ModId) (reads drives : List WireId)
      → IsInstance net base i → slice_get net.modules i ≡ Some m
      → IsUse m.cells before k reads drives
      → (used : Module) → slice_get net.modules k.number ≡ Some used
      → (j : ℕ) (w o : WireId) → slice_get drives j ≡ Some w → slice_get used.outputs j ≡ Some o
      → IsFlatCell net (Copy
      (wire_from base w) (wire_from (base + wires_before net m before) o))

-- the top: the last module
pub record IsTop (net : Net) (i : ℕ) (m : Module) : Type 0 where
  pub last : i + 1 ≡ length net.modules
  pub stands : slice_get net.modules i ≡ Some m

-- the flat net has the ports of the net, the flat wires of its top, whose outputs are the outputs,
-- and the flat cells in the order of the wires that they drive
pub record IsFlatOf (net : Net) (flat : Flat) : Type 0 where
  pub place : ℕ
  pub m : Module
  pub top : IsTop net place m
  pub ports : flat.ports ≡ net.ports
  pub widths : flat.widths ≡ widths_in net place
  pub outputs : flat.outputs ≡ m.outputs
  pub in_order : DrivesFrom m.inputs flat.cells
  pub cells : (cell : Cell)
      → ((at : ℕ) × (slice_get flat.cells at ≡ Some cell)) ↔ IsFlatCell net cell
