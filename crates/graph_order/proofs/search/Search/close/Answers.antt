use Rattle.std.proofs.Common.{◌≡◌, ◌∙◌, ◌++◌, length, List, ℕ, [], ◌∷◌, arith, subst, vec_len}
use Rattle.graph_order.specs.Searches.{IsSearch}
use Rattle.graph_order.proofs.Lists.{rest_of_push}
use Rattle.graph_order.proofs.Searching.{close_keeps, close_goes}
use Rattle.graph_order.proofs.search.Search.close.Goals as goal

pub returns : goal.returns
returns g c =
    let self = c.args.self.now in
    let graph = g.G.Graph.lists c.args.graph.now in
    let front = c.requires.last.0 in
    let is : self.path.items ≡ front ++ c.args.node ∷ [] = c.requires.last.1 in
    let n : vec_len self.path ≡ length self.path.items = omega (arith, self.path.ok.0) in
    let popped : c.pop.new.self.items ≡ front =
    c.pop.ensures.rest ∙ rest_of_push self.path.items front c.args.node (vec_len self.path) is n in
    let pushed : c.push.new.self.items ≡ self.order.items ++ c.args.node ∷ [] = c.in_ok-push.ensures.items in
    let knows : IsSearch graph self.visits.items self.left.items (front ++ c.args.node ∷ []) self.order.items =
    subst (λ (ns : List ℕ). IsSearch graph self.visits.items self.left.items ns self.order.items) is c.requires.knows in
    record {
      knows = rw (popped, pushed) (close_keeps graph self.visits.items self.left.items front self.order.items c.args.node knows
          c.requires.all_met);
      goes = close_goes graph self.visits.items self.left.items front self.order.items c.args.node knows c.requires.all_met;
    }
