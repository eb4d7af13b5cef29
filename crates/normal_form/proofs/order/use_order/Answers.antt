use Rattle.std.proofs.Common.{◌≡◌, map}
use Rattle.graph_order.specs.Orders.{numbers}
use Rattle.data_kinds.proofs.Graphs.{no_cycle_told, cycle_told, some_cycle_told}
use Rattle.normal_form.specs.MadeIn.{body_made}
use Rattle.normal_form.proofs.Graphs.{use_steps, order_told}
use Rattle.normal_form.proofs.order.use_order.Goals as goal

pub returns : goal.returns
returns c =
    let steps = use_steps c.args.made.now in
    let graph = numbers c.in_ok-graph.graph.items in
    let same : graph ≡ map body_made c.args.made.now = c.in_ok-graph.ensures.uses in
    record {
      order = order_told c.args.made.now graph same c.order_of.result c.order_of.ensures.order;
      acyclic = no_cycle_told steps same c.order_of.result c.order_of.ensures.no_cycle;
      cycle = cycle_told steps same c.order_of.result c.order_of.ensures.cycle;
      least = c.order_of.ensures.least;
      some_cycle = some_cycle_told steps same c.order_of.result c.order_of.ensures.some_cycle;
    }
