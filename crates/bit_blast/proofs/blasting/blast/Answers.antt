use Rattle.std.proofs.Common.{◌≤◌, arith}
use Rattle.bit_blast.specs.declared.limit.TheConstants.{BIT_NODES}
use Rattle.bit_blast.proofs.Lengths.{outputs_few}
use Rattle.bit_blast.proofs.Whole.{nets_alike, nodes_few}
use Rattle.bit_blast.proofs.blasting.blast.Goals as goal

pub all_nodes-requires-clause-few : goal.all_nodes-requires-clause-few
all_nodes-requires-clause-few c = omega (arith, outputs_few c.args.flat.now c.requires, c.node_count.ensures)

pub returns-clause-nodes : goal.returns-clause-nodes
returns-clause-nodes c =
    nets_alike c.args.flat.now c.from-2.result c.in_ok-nodes.nodes.items c.from-2.ensures c.in_ok-nodes.ensures

pub returns-clause-few : goal.returns-clause-few
returns-clause-few c =
    let within : c.node_count.result ≤ BIT_NODES = omega arith in
    nodes_few c.args.flat.now c.from-2.result c.in_ok-nodes.nodes.items c.node_count.result c.from-2.ensures c.in_ok-nodes.ensures c.node_count.ensures within
