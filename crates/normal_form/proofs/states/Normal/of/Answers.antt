use Rattle.std.proofs.Common.{List, ℕ, sym, ◌∙◌, subst}
use Rattle.graph_order.specs.Orders.{OfOrder}
use Rattle.normal_forms.specs.Uses.{IsAcyclic}
use Rattle.normal_form.specs.UseOrders.{IsUseOrder, UsesAreThere}
use Rattle.normal_form.proofs.There.{uses_are_there}
use Rattle.normal_form.proofs.states.Normal.of.Goals as goal

pub invariant_of-result : goal.invariant_of-result
invariant_of-result c =
    let p = c.args.program.now in
    let made = c.args.made.now in
    let nodes : List ℕ = c.in-Order.nodes.items in
    let acyclic : IsAcyclic made = subst (λ r. OfOrder r (λ _. IsAcyclic made)) c.in-Order.is c.in_ok-nodes.ensures.acyclic in
    let order : UsesAreThere made → IsUseOrder made nodes =
    subst (λ r. OfOrder r (λ nodes. UsesAreThere made → IsUseOrder made nodes)) c.in-Order.is c.in_ok-nodes.ensures.order in
    let same = c.deref.ensures.value in
    record {
      entry = c.requires.entry;
      normal = c.requires.normal;
      acyclic = acyclic;
      ordered = subst (IsUseOrder made) (sym (c.in_ok-order-in-Order.ensures ∙ same)) (order (uses_are_there p made c.requires.normal));
    }
