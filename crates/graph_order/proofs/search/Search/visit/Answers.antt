use Rattle.std.proofs.Common.{◌≡◌, ◌<◌, Result, Ok, Err, OnOk, arith, length, inl, inr, sym, ◌∙◌}
use Rattle.std.proofs.lemmas.List.{get_or_read}
use Rattle.graph_order.specs.Searches.{visit_at}
use Rattle.graph_order.specs.declared.search.Visit.TheVariants.{Ahead, Open, Done}
use Rattle.graph_order.proofs.Ends.{done_after, done_at_end, stayed_at_first}
use Rattle.graph_order.proofs.search.Search.visit.Goals as goal

on_ok : {T E A B C D : Type 0} (r : Result T E) → OnOk r A → OnOk r B → OnOk r C → (A → B → C → D) → OnOk r D
on_ok (Ok x) a b c f = f a b c
on_ok (Err e) a b c f = tt

pub returns-in_ok-begin-in-Ahead-clause-done : goal.returns-in_ok-begin-in-Ahead-clause-done
returns-in_ok-begin-in-Ahead-clause-done g c =
    let self = c.args.self.now in
    let begun = c.begin.new.self in
    let new = c.run.new.self in
    on_ok c.run.result c.run.ensures.knows c.run.ensures.ended c.run.ensures.stayed (λ k e s.
    done_after (g.G.Graph.lists c.args.graph.now) begun.visits.items new.visits.items begun.left.items new.left.items self.path.items
    new.path.items begun.order.items new.order.items c.args.node
    (rw c.in_ok-begin-in-Ahead.ensures.path at c.in_ok-begin-in-Ahead.ensures.knows) c.requires.start k e s)

pub returns-in-Open : goal.returns-in-Open
returns-in-Open g c =
    let self = c.args.self.now in
    let within : c.args.node < length self.visits.items = omega (arith, c.requires.node, c.requires.knows.visits_size) in
    let here : c.index.result.now ≡ visit_at self.visits.items c.args.node =
    get_or_read self.visits.items c.args.node c.index.result.now within c.index.ensures Ahead in
    record {
      knows = c.requires.knows;
      ended = c.requires.start;
      stayed = stayed_at_first self.visits.items;
      done = done_at_end (g.G.Graph.lists c.args.graph.now) self.visits.items self.left.items self.path.items self.order.items
          c.requires.knows c.requires.start c.args.node
          (λ a. elim c.in-Open.is [
            | inl x ↦ let bad : Open x.0 ≡ Ahead = sym (x.1) ∙ here ∙ a in cc
            | inr x ↦ let bad : Done ≡ Ahead = sym x ∙ here ∙ a in cc
          ]);
      cycle = tt;
      least = tt;
    }
