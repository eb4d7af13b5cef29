-- the copies so far, with those that are left, are all
use Rattle.std.proofs.Common.{◌≡◌, [], drop, length}
use Rattle.net_built.specs.Wires.{copy_cells, ◌▸◌}
use Rattle.net_pieces.proofs.copies.copy_cells.Given as goal

abbrev pub invariant-loop-a : goal.invariant-loop-a
invariant-loop-a l =
    l.into ▸ record { widths = []; cells = copy_cells l.number (drop l.a-index l.wires) }
    ≡ l.initial.into ▸ record { widths = []; cells = copy_cells (length l.initial.into.widths) l.wires }
