use Rattle.std.proofs.Common.{◌<◌, length, arith, sym}
use Rattle.graph_order.proofs.Searching.{degrees_more}
use Rattle.graph_order.proofs.search.degrees.Goals as goal

pub loop-node-preserved : goal.loop-node-preserved
loop-node-preserved g c =
    let lists = g.G.Graph.lists c.args.graph.now in
    let within : c.loop-node.node < length lists = omega (arith, c.loop-node-test.true) in
    rw (c.in_ok-push.ensures.items, c.loop-node.invariant, c.degree.ensures) (sym (degrees_more lists c.loop-node.node within))
