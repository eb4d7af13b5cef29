use Rattle.std.proofs.Common.{◌≡◌, ◌++◌, length, [], ◌∷◌, arith}
use Rattle.graph_order.proofs.Searching.{begin_keeps, begin_goes}
use Rattle.graph_order.proofs.search.Search.begin.Goals as goal

pub returns : goal.returns
returns g c =
    let self = c.args.self.now in
    let path = self.path.items in
    let depth : c.len-depth.result ≡ length path = omega (arith, c.len-depth.ensures, self.path.ok.0) in
    let pushed : c.push.new.self.items ≡ path ++ c.args.node ∷ [] = c.in_ok-push.ensures.items in
    record {
      path = pushed;
      knows = rw (depth, pushed) (begin_keeps (g.G.Graph.lists c.args.graph.now) self.visits.items self.left.items path self.order.items
          c.requires.knows c.args.node c.requires.node);
      goes = rw depth (begin_goes (g.G.Graph.lists c.args.graph.now) self.visits.items self.left.items path self.order.items
          c.requires.knows c.args.node c.requires.node);
    }
