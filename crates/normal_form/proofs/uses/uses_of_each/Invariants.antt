-- the lists of the made definitions so far
use Rattle.std.proofs.Common.{◌≡◌, length, map, take}
use Rattle.graph_order.specs.Orders.{numbers}
use Rattle.normal_form.specs.MadeIn.{body_made}
use Rattle.normal_form.proofs.uses.uses_of_each.Given as goal

abbrev pub invariant-loop-it : goal.invariant-loop-it
invariant-loop-it l = (numbers l.uses.items ≡ map body_made (take l.it-index l.made)) × (length l.uses.items ≡ l.it-index)
