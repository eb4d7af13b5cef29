use Rattle.net_means.proofs.NetFits.PortRules.{ports_hold}
use Rattle.net_means.proofs.NetFits.Tops.{last_kept}
use Rattle.net_means.proofs.net_fits.laws.tops_are_kept.Goals as goal

pub returns : goal.returns
returns c = λ p state net i m typed normal of begins is last.
    last_kept c.facts.ensures c.fields_keep_same.ensures c.same_types_keep_layout.ensures.measure c.saturated_spines.ensures.con c.spines_are_saturated.ensures.con c.saturated_spines.ensures.prim c.steps_keep.ensures.origins p state net of typed normal begins (ports_hold c.facts.ensures c.steps_keep.ensures.origins p state net.ports typed of.ports) i m is last
