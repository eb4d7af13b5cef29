-- the lists of the data types so far
use Rattle.std.proofs.Common.{◌≡◌, length, map, take}
use Rattle.graph_order.specs.Orders.{numbers}
use Rattle.data_kinds.specs.Named.{field_datas}
use Rattle.data_kinds.proofs.datas.data_graph.Given as goal

abbrev pub invariant-loop-it : goal.invariant-loop-it
invariant-loop-it l = (numbers l.graph.items ≡ map field_datas (take l.it-index l.datas)) × (length l.graph.items ≡ l.it-index)
