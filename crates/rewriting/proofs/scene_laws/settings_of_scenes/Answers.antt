use Rattle.rewriting.proofs.Settings.{setting_of_scene, scene_sound}
use Rattle.rewriting.proofs.scene_laws.settings_of_scenes.Goals as goal

pub returns : goal.returns
returns c = record { setting = setting_of_scene; sound = scene_sound c.typed_is_sound.ensures }
