-- The drivers of wires, by their places among the cells.
use Rattle.std.specs.Prelude.{ℕ, List, Option, Some, None, slice_get}
use Rattle.netlist.specs.declared.net.Cell.{Cell}

-- the cell of a place, where there is a place
abbrev pub cell_at : List Cell → Option ℕ → Option Cell
cell_at cells None = None
cell_at cells (Some k) = slice_get cells k
