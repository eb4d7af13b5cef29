-- the search knows as much as at first, and what was done stays so; each turn leaves less to do
use Rattle.graph_order.specs.Searches.{Knows, Stayed, work_of}
use Rattle.graph_order.proofs.search.Search.run.Given as goal

abbrev pub invariant-loop-node : goal.invariant-loop-node
invariant-loop-node g l = record {
  knows : Knows (g.G.Graph.lists l.graph) l.self;
  stayed : Stayed l.initial.self.visits.items l.self.visits.items;
}

abbrev pub decreases-loop-node : goal.decreases-loop-node
decreases-loop-node g l = work_of l.self.visits.items l.self.left.items
