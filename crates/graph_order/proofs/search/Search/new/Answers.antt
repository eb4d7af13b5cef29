use Rattle.std.proofs.Common.{◌≡◌, length, map, replicate, rules}
use Rattle.graph_order.specs.declared.search.Visit.TheVariants.{Ahead}
use Rattle.graph_order.proofs.Searching.{start_knows}
use Rattle.graph_order.proofs.search.Search.new.Goals as goal

pub returns-clause-knows : goal.returns-clause-knows
returns-clause-knows g c =
    let graph = g.G.Graph.lists c.args.graph.now in
    let v : c.in_ok-visits.visits.items ≡ replicate c.node_count.result Ahead =
    c.in_ok-visits.ensures.items_if_clones_equal (λ y h. search rules) in
    let u : c.in_ok-left.left.items ≡ map length graph = c.in_ok-left.ensures in
    rw (v, c.node_count.ensures, u, c.new.ensures.items, c.new-2.ensures.items) (start_knows graph)
