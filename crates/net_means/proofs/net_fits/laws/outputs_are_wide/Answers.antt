use Rattle.net_means.proofs.NetFits.OutputWidths.{some_wires, value_outputs}
use Rattle.net_means.proofs.net_fits.laws.outputs_are_wide.Goals as goal

pub returns : goal.returns
returns c = record {
  values = λ p state net number w it m typed normal of is value made_of has.
      value_outputs c.facts.ensures c.same_types_keep_layout.ensures.measure c.steps_keep.ensures.origins p state net typed normal of number w it m is value made_of has;
  wires = λ p state net i m typed normal of is less.
      some_wires c.facts.ensures c.fields_keep_same.ensures c.same_types_keep_layout.ensures.measure c.saturated_spines.ensures.con c.spines_are_saturated.ensures.con c.saturated_spines.ensures.prim c.steps_keep.ensures.origins p state net of typed normal i m is less;
}
