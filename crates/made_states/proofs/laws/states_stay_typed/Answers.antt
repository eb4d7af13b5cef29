use Rattle.made_states.proofs.States.{any_step_keeps, run_typed, runs_typed, spec_keeps}
use Rattle.made_states.proofs.laws.states_stay_typed.Goals as goal

pub returns : goal.returns
returns c = record {
  spec = spec_keeps c.typed_is_sound.ensures c.names_of_modes.ensures.kind;
  steps = any_step_keeps c.typed_is_sound.ensures c.names_of_modes.ensures.kind;
  many = runs_typed c.typed_is_sound.ensures c.names_of_modes.ensures.kind;
  runs =
      run_typed c.typed_is_sound.ensures c.names_of_modes.ensures.kind
      c.opening_is_typed.ensures.state;
}
