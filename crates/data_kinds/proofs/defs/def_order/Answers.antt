use Rattle.std.proofs.Common.{◌≡◌, map}
use Rattle.graph_order.specs.Orders.{numbers}
use Rattle.data_kinds.specs.Named.{body_defs}
use Rattle.data_kinds.proofs.Graphs.{def_steps, no_cycle_told, cycle_told, some_cycle_told}
use Rattle.data_kinds.proofs.defs.def_order.Goals as goal

pub returns : goal.returns
returns c =
    let steps = def_steps c.args.defs.now in
    let same : numbers c.in_ok-graph.graph.items ≡ map body_defs c.args.defs.now = c.in_ok-graph.ensures.graph in
    record {
      no_cycle = no_cycle_told steps same c.order_of.result c.order_of.ensures.no_cycle;
      cycle = cycle_told steps same c.order_of.result c.order_of.ensures.cycle;
      least = c.order_of.ensures.least;
      some_cycle = some_cycle_told steps same c.order_of.result c.order_of.ensures.some_cycle;
    }
