use Rattle.opening.proofs.Opened.{opening_typed, scene_typed}
use Rattle.opening.proofs.laws.opening_is_typed.Goals as goal

pub returns : goal.returns
returns c = record {
  state = opening_typed c.steps_keep.ensures.origins;
  scene = scene_typed c.steps_keep.ensures.origins;
}
