use Rattle.std.proofs.Common.{arith}
use Rattle.graph_order.proofs.Ends.{ordered}
use Rattle.graph_order.proofs.Exclusion.{excludes, leads_back, places}
use Rattle.graph_order.proofs.ordering.order_of.Goals as goal

pub returns-in-Err-Fault-clause-some_cycle : goal.returns-in-Err-Fault-clause-some_cycle
returns-in-Err-Fault-clause-some_cycle g c =
    leads_back (g.G.Graph.lists c.args.graph.now) c.in-Err-Fault.nodes.items (rw c.in-Err-Fault.field-0-is at c.in-Err-Fault.ensures.cycle)

pub returns : goal.returns
returns g c =
    let graph = g.G.Graph.lists c.args.graph.now in
    let found = c.loop-node.search in
    let order = ordered graph found.visits.items found.left.items found.path.items found.order.items c.loop-node.invariant.knows
    (λ p l. c.loop-node.invariant.done p (omega (arith, c.loop-node-test.false))) in
    record {
      order = order;
      no_cycle = excludes graph (places graph found.order.items order);
      cycle = tt;
      least = tt;
      some_cycle = tt;
    }
