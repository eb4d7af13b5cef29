-- a list for each binding so far
use Rattle.std.proofs.Common.{◌≡◌, length, take}
use Rattle.graph_order.specs.Orders.{numbers}
use Rattle.blocked_places.specs.Cycles.{AreReferences}
use Rattle.blocked_places.proofs.cycles.references.Given as goal

abbrev pub invariant-loop-binding : goal.invariant-loop-binding
invariant-loop-binding l =
    (length (numbers l.lists.items) ≡ l.binding-index)
    × AreReferences l.count l.flags (take l.binding-index l.bindings) (numbers l.lists.items)
