use Rattle.net_means.proofs.NetWidths.WholeNets.{widths_hold}
use Rattle.net_means.proofs.net_widths.laws.widths_are_kept.Goals as goal

pub returns : goal.returns
returns c = λ p state net i m typed normal of begins here.
    widths_hold c.facts.ensures c.fields_keep_same.ensures c.same_types_keep_layout.ensures.measure c.same_values.ensures c.saturated_spines.ensures.con c.spines_are_saturated.ensures.con c.saturated_spines.ensures.prim c.steps_keep.ensures.origins p state net i m typed normal of begins here
