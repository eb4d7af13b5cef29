use Rattle.rule_types.proofs.Names.{names_keep, names_keep_complete, scene_origins}
use Rattle.rule_types.proofs.laws.names_keep.Goals as goal

pub returns : goal.returns
returns c = record {
  scenes = scene_origins c.settings_of_scenes.ensures.sound;
  types = λ o at r e e' w h f t d. names_keep o at w h f t d;
  complete = λ o at r e e' w f h. names_keep_complete o at w f h;
}
