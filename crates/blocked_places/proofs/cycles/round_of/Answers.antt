use Rattle.std.proofs.Common.{length, subst}
use Rattle.graph_order.specs.Orders.{OfOrder, OfCycle, IsCycle, numbers}
use Rattle.graph_order.specs.References.{HasNoCycle, Refers}
use Rattle.blocked_places.specs.Cycles.{AreReferences}
use Rattle.blocked_places.proofs.Rounds.{round_found, round_none}
use Rattle.blocked_places.proofs.cycles.round_of.Goals as goal

pub returns-in-Order : goal.returns-in-Order
returns-in-Order c =
    let datas = c.args.datas.now in
    let bs = c.args.bindings.now in
    let flags = c.in_ok-flags.flags.items in
    let lists = numbers c.in_ok-references.references.items in
    let refers : AreReferences (length bs) flags bs lists =
    subst (λ fs. AreReferences (length bs) fs bs lists) c.deref.ensures.value c.in_ok-references.ensures.references in
    let none = subst (λ r. OfOrder r (λ _. HasNoCycle (Refers lists))) c.in-Order.is c.in_ok-order_of.ensures.no_cycle in
    round_none datas c.args.mode bs flags lists c.in_ok-flags.ensures refers none

pub returns : goal.returns
returns c =
    let datas = c.args.datas.now in
    let bs = c.args.bindings.now in
    let flags = c.in_ok-flags.flags.items in
    let lists = numbers c.in_ok-references.references.items in
    let refers : AreReferences (length bs) flags bs lists =
    subst (λ fs. AreReferences (length bs) fs bs lists) c.deref.ensures.value c.in_ok-references.ensures.references in
    let round = subst (λ r. OfCycle r (IsCycle lists)) c.in-Cycle.is c.in_ok-order_of.ensures.cycle in
    (round_found datas c.args.mode bs flags lists c.in-Cycle.nodes.items c.in_ok-flags.ensures refers round, round.once)
