use Rattle.rewriting.specs.Origins.{setting_at}
use Rattle.net_means.specs.NetFits.WidthLaws.{types_in}
use Rattle.net_means.proofs.NetFits.ElementSides.{at_agrees, get_agrees}
use Rattle.net_means.proofs.net_fits.laws.element_sides_agree.Goals as goal

pub returns : goal.returns
returns c = record {
  number = λ i m a x o order all earlier scope n w t k p sound scoped typed kind has form cells wide stand.
      (get_agrees c.facts.ensures c.same_types_keep_layout.ensures.measure c.same_values.ensures (setting_at o) all sound (types_in scope) scope (record { same = c.facts.ensures.scopes.are_same_self (types_in scope) }) wide earlier scoped t typed.type k kind typed.same has stand i m a x typed.has cells).cells;
  index = λ m j a x y o order all earlier scope n w t k p sound scoped typed kind has form cells wide stand.
      (at_agrees c.facts.ensures c.same_types_keep_layout.ensures.measure c.same_values.ensures (setting_at o) all sound (types_in scope) scope (record { same = c.facts.ensures.scopes.are_same_self (types_in scope) }) wide earlier scoped t typed.type k kind typed.same has stand m j a x y typed.has cells).cells;
}
