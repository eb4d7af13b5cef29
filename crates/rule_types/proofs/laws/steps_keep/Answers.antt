use Rattle.rule_types.proofs.States.{state_origins, steps_keep}
use Rattle.rule_types.proofs.laws.steps_keep.Goals as goal

pub returns : goal.returns
returns c = record {
  origins = state_origins c.typed_is_sound.ensures;
  steps = steps_keep c.typed_is_sound.ensures;
}
