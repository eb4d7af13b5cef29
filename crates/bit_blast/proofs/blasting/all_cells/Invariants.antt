-- what is made, with the cells that are left, is all
use Rattle.std.proofs.Common.{◌≡◌, ◌++◌, map, drop}
use Rattle.std.specs.List.{flat_map}
use Rattle.bit_laws.specs.Blast.{nodes_of}
use Rattle.bit_nodes.specs.Standing.{node_of}
use Rattle.bit_blast.proofs.blasting.all_cells.Given as goal

abbrev pub invariant-loop-cell : goal.invariant-loop-cell
invariant-loop-cell l =
    map (node_of l.flat) l.nodes.items ++ flat_map (nodes_of l.flat) (drop l.cell-index l.cell-items)
    ≡ map (node_of l.flat) l.fn.nodes.items ++ flat_map (nodes_of l.flat) l.flat.cells
