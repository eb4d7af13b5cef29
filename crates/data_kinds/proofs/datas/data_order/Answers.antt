use Rattle.std.proofs.Common.{◌≡◌, map}
use Rattle.graph_order.specs.Orders.{numbers}
use Rattle.data_kinds.specs.Named.{field_datas}
use Rattle.data_kinds.proofs.Graphs.{data_steps, order_told, no_cycle_told, cycle_told, some_cycle_told}
use Rattle.data_kinds.proofs.datas.data_order.Goals as goal

pub returns : goal.returns
returns c =
    let steps = data_steps c.args.datas.now in
    let same : numbers c.in_ok-graph.graph.items ≡ map field_datas c.args.datas.now = c.in_ok-graph.ensures.graph in
    record {
      order = order_told steps same c.order_of.result c.order_of.ensures.order;
      no_cycle = no_cycle_told steps same c.order_of.result c.order_of.ensures.no_cycle;
      cycle = cycle_told steps same c.order_of.result c.order_of.ensures.cycle;
      least = c.order_of.ensures.least;
      some_cycle = some_cycle_told steps same c.order_of.result c.order_of.ensures.some_cycle;
    }
