-- the lists of the definitions so far
use Rattle.std.proofs.Common.{◌≡◌, length, map, take}
use Rattle.graph_order.specs.Orders.{numbers}
use Rattle.data_kinds.specs.Named.{body_defs}
use Rattle.data_kinds.proofs.defs.def_graph.Given as goal

abbrev pub invariant-loop-it : goal.invariant-loop-it
invariant-loop-it l = (numbers l.graph.items ≡ map body_defs (take l.it-index l.defs)) × (length l.graph.items ≡ l.it-index)
