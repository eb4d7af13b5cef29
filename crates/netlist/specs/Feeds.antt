-- Which wires settle by which others within one event. Wires are spoken of by their numbers, and cells by their places.
use Rattle.std.specs.Prelude.{◌≡◌, ℕ, List, [], Option, Some, None, option_map, option_and_then, slice_get}
use Rattle.chw_base.specs.declared.index.WireId.{WireId}
use Rattle.netlist.specs.Wires.{driven, read_by}
use Rattle.netlist.specs.declared.net.Cell.{Cell}
use Rattle.netlist.specs.declared.net.Cell.TheVariants.{Reg, Ram, Use}

-- the wire that a cell drives, where it is no use of a module
abbrev pub target : Cell → Option ℕ
target (Use m reads drives) = None
target cell = option_map (λ w. w.number) (slice_get (driven cell) 0)

-- the wires that a cell waits for in an event: all that it reads, and none where it is a register or RAM
abbrev pub awaited : Cell → List WireId
awaited (Reg w domain initial a) = []
awaited (Ram w domain words inputs) = []
awaited cell = read_by cell

-- one of these wires
abbrev pub awaited_wire : Cell → ℕ → Option ℕ
awaited_wire cell k = option_map (λ w. w.number) (slice_get (awaited cell) k)

-- the wire that the cell at this place drives
abbrev pub target_at : List Cell → ℕ → Option ℕ
target_at cells place = option_and_then target (slice_get cells place)

-- one of the wires that the cell at this place waits for
abbrev pub awaited_at : List Cell → ℕ → ℕ → Option ℕ
awaited_at cells place k = option_and_then (λ cell. awaited_wire cell k) (slice_get cells place)

-- the first wire is read by the cell that drives the second, and this cell is no register or RAM
abbrev pub Feeds : List Cell → ℕ → ℕ → Type 0
Feeds cells v w = (place : ℕ) × (k : ℕ) × (target_at cells place ≡ Some w) × (awaited_at cells place k ≡ Some v)
