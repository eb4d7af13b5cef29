-- the nodes so far are done
use Rattle.std.proofs.Common.{◌≡◌, ℕ, ◌<◌, []}
use Rattle.graph_order.specs.Searches.{Knows, visit_at}
use Rattle.graph_order.specs.declared.search.Visit.TheVariants.{Done}
use Rattle.graph_order.proofs.ordering.order_of.Given as goal

abbrev pub invariant-loop-node : goal.invariant-loop-node
invariant-loop-node g l = record {
  knows : Knows (g.G.Graph.lists l.graph) l.search;
  ended : l.search.path.items ≡ [];
  done : (p : ℕ) → p < l.node → visit_at l.search.visits.items p ≡ Done;
}
