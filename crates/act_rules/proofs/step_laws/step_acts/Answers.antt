use Rattle.act_rules.proofs.Steps.{StepLaws, step_acts, step_gives}
use Rattle.act_rules.proofs.step_laws.step_acts.Goals as goal

pub returns : goal.returns
returns c =
    let laws : StepLaws =
    record {
      typed_sound = c.typed_is_sound.ensures;
      setting = c.settings_of_scenes.ensures.setting;
      sound = c.settings_of_scenes.ensures.sound;
      alone = c.origins_keep_types.ensures.alone;
      around = c.active_is_around.ensures.place;
      place = c.place_of_scene_is_typed.ensures;
      plug = c.plug_acts.ensures;
      instance = c.instance_acts.ensures;
      acts_give = c.acts_gives.ensures.one;
    } in
    record { acts = step_acts laws; gives = step_gives laws }
