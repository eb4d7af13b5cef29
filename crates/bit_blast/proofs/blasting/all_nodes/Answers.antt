use Rattle.std.proofs.Common.{List, ◌++◌, map, ap, ◌∙◌}
use Rattle.std.specs.List.{flat_map}
use Rattle.bit_laws.specs.Blast.{nodes_of, output_nodes}
use Rattle.bit_nodes.specs.Standing.{node_of}
use Rattle.bit_nodes.specs.declared.nodes.BitNode.{BitNode}
use Rattle.bit_blast.proofs.Adding.{both_added}
use Rattle.bit_blast.proofs.blasting.all_nodes.Goals as goal

pub returns : goal.returns
returns c =
    let flat = c.args.flat.now in
    let cells = flat_map (nodes_of flat) flat.cells in
    let outputs = output_nodes flat flat.ports.outputs flat.outputs in
    both_added flat c.new-nodes.result.items c.all_cells.new.nodes.items c.all_outputs.new.nodes.items cells outputs
    c.in_ok-all_cells.ensures c.in_ok-all_outputs.ensures
    ∙ ap (λ (ns : List BitNode). map (node_of flat) ns ++ (cells ++ outputs)) c.new-nodes.ensures.items
