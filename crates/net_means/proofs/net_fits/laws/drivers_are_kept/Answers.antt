use Rattle.net_means.proofs.NetFits.Drivers.{drivers_hold}
use Rattle.net_means.proofs.NetFits.Modules.{net_drives}
use Rattle.net_means.proofs.net_fits.laws.drivers_are_kept.Goals as goal

pub returns : goal.returns
returns c = λ p state net i m typed normal of is.
    drivers_hold c.facts.ensures c.fields_keep_same.ensures c.same_types_keep_layout.ensures.measure c.steps_keep.ensures.origins p state net i m typed normal of is
    (net_drives c.facts.ensures c.fields_keep_same.ensures c.same_types_keep_layout.ensures.measure c.saturated_spines.ensures.con c.spines_are_saturated.ensures.con c.saturated_spines.ensures.prim c.steps_keep.ensures.origins p state net i m typed normal of is)
