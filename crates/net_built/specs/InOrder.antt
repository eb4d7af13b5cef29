-- Cells that drive the wires of their piece.
use Rattle.std.specs.Prelude.{◌≡◌, ℕ, flat_map, length}
use Rattle.netlist.specs.Wires.{driven}
use Rattle.net_built.specs.Wires.{wires_from, Piece}

-- from wire n on, the cells drive the wires of the piece in order, each one once
abbrev pub DrivesInOrder : ℕ → Piece → Type 0
DrivesInOrder n p = flat_map driven p.cells ≡ wires_from n (length p.widths)
