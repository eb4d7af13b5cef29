use Rattle.net_means.specs.NetFits.Laws.{BuiltIsWellFormed}
use Rattle.net_means.proofs.NetFits.PortRules.{ports_hold}
use Rattle.net_means.proofs.NetFits.Whole.{well_formed}
use Rattle.net_means.proofs.net_fits.laws.built_is_well_formed.Goals as goal

pub returns : goal.returns
returns c =
    let states : BuiltIsWellFormed =
    λ p state net typed normal of begins rest.
    well_formed c.facts.ensures c.fields_keep_same.ensures c.same_types_keep_layout.ensures.measure c.saturated_spines.ensures.con c.spines_are_saturated.ensures.con c.saturated_spines.ensures.prim c.steps_keep.ensures.origins p state net of typed normal begins (ports_hold c.facts.ensures c.steps_keep.ensures.origins p state net.ports typed of.ports) rest in
    record {
      states = states;
      runs = λ rules p n steps state net run typed normal of rest. states p state net typed normal of (c.runs_begin_with_top.ensures rules p n steps state run) rest;
    }
