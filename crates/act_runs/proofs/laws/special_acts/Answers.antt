use Rattle.act_runs.proofs.SpecialSteps.{special_acts}
use Rattle.act_runs.proofs.laws.special_acts.Goals as goal

pub returns : goal.returns
returns c = special_acts (record {
  sound = c.typed_is_sound.ensures;
  alone = c.made_definitions_replaced.ensures.none;
  kinds_of = c.names_of_modes.ensures.kind;
  there = c.number_is_there.ensures;
  plug = c.plug_acts.ensures;
  abstracted = c.abstracted_acts.ensures;
})
