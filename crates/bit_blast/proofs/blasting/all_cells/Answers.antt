use Rattle.std.proofs.Common.{List, ◌++◌, map, ap, arith}
use Rattle.std.specs.List.{flat_map}
use Rattle.netlist.specs.declared.net.Cell.{Cell}
use Rattle.bit_laws.specs.Blast.{nodes_of}
use Rattle.bit_nodes.specs.Standing.{node_of}
use Rattle.bit_blast.proofs.Whole.{cell_fits, cells_all, cells_more}
use Rattle.bit_blast.proofs.blasting.all_cells.Goals as goal

pub loop-cell-init : goal.loop-cell-init
loop-cell-init c =
    let flat = c.args.flat.now in
    ap (λ (cells : List Cell). map (node_of flat) c.args.nodes.now.items ++ flat_map (nodes_of flat) cells) c.as_slice-cell-items.ensures

pub cell_nodes-requires-clause-fits : goal.cell_nodes-requires-clause-fits
cell_nodes-requires-clause-fits c =
    cell_fits c.args.flat.now c.as_slice-cell-items.result.now c.loop-cell.cell-index c.cell-item.result c.requires c.as_slice-cell-items.ensures
    (omega (arith, c.loop-cell-test.true)) c.cell-item.is

pub loop-cell-preserved : goal.loop-cell-preserved
loop-cell-preserved c =
    cells_more c.args.flat.now c.args.nodes.now.items c.loop-cell.nodes.items c.cell_nodes.new.nodes.items c.as_slice-cell-items.result.now c.loop-cell.cell-index
    c.cell-item.result (omega (arith, c.loop-cell-test.true)) c.cell-item.is c.loop-cell.invariant c.in_ok-cell_nodes.ensures

pub returns : goal.returns
returns c =
    cells_all c.args.flat.now c.args.nodes.now.items c.loop-cell.nodes.items c.as_slice-cell-items.result.now c.loop-cell.cell-index
    (omega (arith, c.loop-cell-test.false)) c.loop-cell.invariant
