-- What drives each wire of an instance, in a table by the numbers of the module's wires.
use Rattle.std.specs.Prelude.{◌≡◌, ℕ, ◌+◌, ◌<◌, ◌≤◌, List, [], ◌∷◌, ◌++◌, length}
use Rattle.std.specs.Prelude.{Some, None, slice_get, slice_index_or, slice_set as set}
use Rattle.std.specs.List.{AllByRecursion}
use Rattle.chw_base.specs.declared.index.ModId.{ModId}
use Rattle.chw_base.specs.declared.index.WireId.{WireId}
use Rattle.netlist.specs.Feeds.{target}
use Rattle.netlist.specs.Wires.{driven, read_by}
use Rattle.netlist.specs.declared.net.Cell.{Cell}
use Rattle.netlist.specs.declared.net.Cell.TheVariants.{Copy, Use}
use Rattle.netlist.specs.declared.net.Module.{Module}
use Rattle.netlist.specs.declared.net.Net.{Net}
use Rattle.net_flat.specs.declared.tables.Driver.{Driver}
use Rattle.net_flat.specs.declared.tables.Driver.TheVariants.{Place, Output}
use Rattle.net_flat.specs.Flattened.{IsUse, NoUse, moved, wire_from, wires_before}
use Rattle.net_flat.specs.Instances.{Moves}

-- the cell at this place drives the wire, and is no use
pub record CellDrives (m : Module) (w place : ℕ) : Type 0 where
  pub cell : Cell
  pub stands : slice_get m.cells place ≡ Some cell
  pub own : NoUse cell
  pub drives : target cell ≡ Some w

-- a use drives the wire by an output of the used instance, which is this flat wire
pub record UseDrives (net : Net) (base : ℕ) (m : Module) (w : ℕ) (output : WireId) : Type 0 where
  pub before : List Cell
  pub k : ModId
  pub reads : List WireId
  pub drives : List WireId
  pub stands : IsUse m.cells before k reads drives
  pub used : Module
  pub found : slice_get net.modules k.number ≡ Some used
  pub j : ℕ
  pub wire : WireId
  pub inner : WireId
  pub driven : slice_get drives j ≡ Some wire
  pub given : slice_get used.outputs j ≡ Some inner
  pub same : wire.number ≡ w
  pub «is» : output ≡ wire_from (base + wires_before net m before) inner

-- this is what drives the wire of an instance
abbrev pub Drives : Net → ℕ → Module → ℕ → Driver → Type 0
Drives net base m w (Place place) = CellDrives m w place
Drives net base m w (Output output) = UseDrives net base m w output

-- the table has what drives each wire that is no input
pub record IsTable (net : Net) (base : ℕ) (m : Module) (table : List Driver) : Type 0 where
  pub size : length table ≡ length m.widths
  pub entries : (w : ℕ) → m.inputs ≤ w → w < length m.widths
      → Drives net base m w (slice_index_or table w (Place 0))

-- the table after the outputs of a used instance are written at the wires that its use drives
abbrev pub outputs_written : ℕ → List Driver → List WireId → List WireId → List Driver
outputs_written next table (w ∷ drives) (o ∷ outputs) =
    outputs_written next (set table w.number (Output (wire_from next o))) drives outputs
outputs_written next table _ _ = table

-- the outputs of the module of this number
abbrev pub outputs_of : List Module → ℕ → List WireId
outputs_of modules k = elim (slice_get modules k) [ Some m ↦ m.outputs | None ↦ [] ]

-- the numbers of the flat wires fit that a use gives
abbrev pub UseGives : List Module → ℕ → Cell → Type 0
UseGives modules next (Use k reads drives) =
    AllByRecursion (Moves next) (outputs_of modules k.number)
UseGives modules next _ = Unit {0}

-- the table after the cell at this place is written at the wires that it drives, where the wires of
-- an instance that it uses come next
abbrev pub drivers_written : List Module → (next place : ℕ) → Cell → List Driver → List Driver
drivers_written modules next place (Use k reads drives) table =
    outputs_written next table drives (outputs_of modules k.number)
drivers_written modules next place cell table =
    elim (slice_get (driven cell) 0) [ Some w ↦ set table w.number (Place place) | None ↦ table ]

-- where it is a place, a cell stands there
abbrev pub StandsIn : List Cell → Driver → Type 0
StandsIn cells (Place place) = place < length cells
StandsIn cells (Output output) = Unit {0}

-- the numbers of a cell's flat wires fit
abbrev pub CellMoves : ℕ → Cell → Type 0
CellMoves base cell =
    AllByRecursion (Moves base) (driven cell) × AllByRecursion (Moves base) (read_by cell)

-- the flat cell of a wire of an instance, by what drives it
abbrev pub IsCellFor : ℕ → List Cell → ℕ → Driver → Cell → Type 0
IsCellFor base cells w (Place place) flat =
    (c : Cell) × (slice_get cells place ≡ Some c) × (flat ≡ moved base c)
IsCellFor base cells w (Output output) flat = flat ≡ Copy (record { number = base + w }) output

-- flat cells were pushed for the wires of an instance that are no inputs, by what drives them
pub record ArePushed (base : ℕ) (m : Module) (table : List Driver) (to : ℕ)
    (before after : List Cell) : Type 0 where
  pub own : List Cell
  pub «is» : after ≡ before ++ own
  pub all : m.inputs + length own ≡ to
  pub each : (j : ℕ) (c : Cell) → slice_get own j ≡ Some c → IsCellFor base m.cells
      (m.inputs + j) (slice_index_or table (m.inputs + j) (Place 0)) c
