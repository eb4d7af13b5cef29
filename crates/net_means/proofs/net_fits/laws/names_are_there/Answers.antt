use Rattle.net_means.proofs.NetFits.Names.{names_there}
use Rattle.net_means.proofs.net_fits.laws.names_are_there.Goals as goal

pub returns : goal.returns
returns c = λ p state net i m typed normal of is.
    names_there c.facts.ensures c.fields_keep_same.ensures c.same_types_keep_layout.ensures.measure c.saturated_spines.ensures.con c.spines_are_saturated.ensures.con c.saturated_spines.ensures.prim c.steps_keep.ensures.origins p state net of typed normal i m is
