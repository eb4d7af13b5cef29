use Rattle.rewriting.proofs.Scenes.{scene_place}
use Rattle.rewriting.proofs.place_laws.place_of_scene_is_typed.Goals as goal

pub returns : goal.returns
returns c = scene_place c.typed_is_sound.ensures
