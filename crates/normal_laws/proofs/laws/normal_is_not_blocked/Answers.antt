use Rattle.rewriting.specs.Origins.{made_of}
use Rattle.rewriting.specs.Steps.{origins_in}
use Rattle.normal_laws.proofs.Unblocked.{not_blocked}
use Rattle.normal_laws.proofs.laws.normal_is_not_blocked.Goals as goal

pub returns : goal.returns
returns c p state m it path b typed is h blocked =
    let sound = (c.steps_keep.ensures.origins p state typed).sound in
    not_blocked (origins_in p state)
    (record {
      sound = sound;
      one = c.one_measure.ensures;
      there = c.measured_types.ensures.there;
      back = c.measured_types.ensures.back;
      kept = c.same_types_keep_layout.ensures.measure;
      keep = c.fields_keep_same.ensures;
      cons = c.saturated_spines.ensures.con;
      saturated = c.spines_are_saturated.ensures.con;
    })
    (record { sound = sound; named = c.names_of_modes.ensures.kept; prims = c.saturated_spines.ensures.prim; keep = c.fields_keep_same.ensures })
    c.same_naturals_mean_one_number.ensures (made_of it) it.body (typed.each m it is).closed h path b blocked
