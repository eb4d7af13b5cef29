use Rattle.ended_laws.proofs.Roots.{Laws}
use Rattle.ended_laws.proofs.States.{none_is_stuck, ended_state_is_normal}
use Rattle.ended_laws.proofs.laws.none_is_stuck.Goals as goal

pub returns : goal.returns
returns c =
    let laws : Laws =
    record {
      decided = c.names_of_modes.ensures.decided;
      kept = c.names_of_modes.ensures.kept;
      keep = c.fields_keep_same.ensures;
      there = c.measured_types.ensures.there;
      one = c.one_measure.ensures;
      measure = c.same_types_keep_layout.ensures.measure;
      blocks = c.values_stand.ensures.block;
      bodies = c.circuits_stand.ensures.body;
    } in
    let body = none_is_stuck laws c.steps_keep.ensures.origins in
    record { body = body; state = ended_state_is_normal body c.normal_is_not_blocked.ensures }
