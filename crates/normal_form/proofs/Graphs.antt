-- Uses as references of a graph.
use Rattle.std.proofs.Common.{◌≡◌, ℕ, ◌<◌, List, length, map, get_or, sym, ◌∙◌, subst, Result, Ok, Err, IfOk}
use Rattle.std.proofs.lemmas.List.{length-map}
use Rattle.chw_base.specs.declared.outcome.NoMemory.{NoMemory}
use Rattle.chw_terms.specs.declared.scene.Made.{Made}
use Rattle.graph_order.specs.Orders.{IsOrder, OfOrder}
use Rattle.graph_order.specs.declared.ordering.Ordering.{Ordering}
use Rattle.graph_order.specs.declared.ordering.Ordering.TheVariants.{Order, Cycle}
use Rattle.data_kinds.proofs.Graphs.{HasSteps, listed_by, refers_by, item_within}
use Rattle.normal_forms.specs.Uses.{Uses}
use Rattle.normal_form.specs.MadeIn.{body_made}
use Rattle.normal_form.specs.UseOrders.{UsesAreThere, IsUseOrder}
use Rattle.normal_form.proofs.Listed.{made_listed}

pub use_steps : (state : List Made) → HasSteps (map body_made state) (Uses state)
use_steps state = record {
  to_step = λ a b r. let by = listed_by body_made state a b r in (by.0, by.1, made_listed by.0.body b ∙ by.2);
  from_step = λ a b l s. refers_by body_made state a b s.0 s.1 (sym (made_listed s.0.body b) ∙ s.2) l;
  begins = λ a b s. item_within body_made state a s.0 s.1;
}

-- an order of the graph is one of the made definitions
order_of_uses : (state : List Made) (nodes : List ℕ) → IsOrder (map body_made state) nodes → UsesAreThere state → IsUseOrder state nodes
order_of_uses state nodes o there =
    let size : length (map body_made state) ≡ length state = length-map state body_made in
    record {
      size = o.size ∙ size;
      within = λ i l. subst (λ k. get_or nodes i 0 < k) size (o.within i l);
      once = o.once;
      all = λ m l. o.all m (subst (λ k. m < k) (sym size) l);
      after = λ j n l u.
          let in_graph = subst (λ k. n < k) (sym size) (there (get_or nodes j 0) n u) in
          o.after j n l ((use_steps state).from_step (get_or nodes j 0) n in_graph u);
    }

pub order_told : (state : List Made) (graph : List (List ℕ)) → graph ≡ map body_made state → (a : Result Ordering NoMemory) → IfOk a (λ r. OfOrder r (IsOrder graph))
    → IfOk a (λ r. OfOrder r (λ nodes. UsesAreThere state → IsUseOrder state nodes))
order_told state graph same (Ok (Order v)) h = order_of_uses state v.items (subst (λ (gr : List (List ℕ)). IsOrder gr v.items) same h)
order_told state graph same (Ok (Cycle v)) h = tt
order_told state graph same (Err e) h = tt
