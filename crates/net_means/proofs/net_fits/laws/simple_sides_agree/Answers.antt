use Rattle.rewriting.specs.Origins.{setting_at}
use Rattle.net_means.specs.NetFits.WidthLaws.{types_in}
use Rattle.net_means.proofs.NetFits.SimpleSides.{literal_agrees, name_agrees, vector_agrees}
use Rattle.net_means.proofs.NetFits.ValueWidths.{variable_wide}
use Rattle.net_means.proofs.net_fits.laws.simple_sides_agree.Goals as goal

pub returns : goal.returns
returns c = record {
  name = λ x o order all earlier scope n w t k p sound scoped typed kind has form cells wide stand.
      (name_agrees earlier all cells
      (variable_wide c.facts.ensures c.same_types_keep_layout.ensures.measure (setting_at o) all sound (types_in scope) scope x t typed.type k w (record { same = c.facts.ensures.scopes.are_same_self (types_in scope) }) (wide x) typed.has kind typed.same has) stand).cells;
  literal = λ s bits o order all earlier scope n w t k p sound scoped typed kind has form cells wide stand.
      (literal_agrees c.facts.ensures earlier all c.same_values.ensures cells typed.has typed.same has stand).cells;
  vector = λ v xs o order all earlier scope n w t k p sound scoped typed kind has form cells wide stand.
      (vector_agrees c.facts.ensures c.same_types_keep_layout.ensures.measure earlier (setting_at o) all sound (types_in scope) scope (record { same = c.facts.ensures.scopes.are_same_self (types_in scope) }) wide v t typed.type k xs cells typed.has kind typed.same has stand).cells;
}
