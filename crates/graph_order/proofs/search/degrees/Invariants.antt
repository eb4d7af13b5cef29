-- the numbers of the nodes so far
use Rattle.std.proofs.Common.{◌≡◌, length, map, take}
use Rattle.graph_order.proofs.search.degrees.Given as goal

abbrev pub invariant-loop-node : goal.invariant-loop-node
invariant-loop-node g l = l.degrees.items ≡ map length (take l.node (g.G.Graph.lists l.graph))
