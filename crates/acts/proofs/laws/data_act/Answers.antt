use Rattle.acts.specs.Acts.{acts_from}
use Rattle.acts.proofs.Given.{stream_acts, given_acts}
use Rattle.acts.proofs.Globals.{globals_from}
use Rattle.acts.proofs.Levels.{from_turns}
use Rattle.acts.proofs.Values.{known_acts, value_fits}
use Rattle.acts.proofs.laws.data_act.Goals as goal

pub returns : goal.returns
returns c = record {
  values = λ p n t d v. known_acts (from_turns p n) (value_fits p v);
  streams = λ p n d t ds all. stream_acts (from_turns p n) d t ds all;
  inputs = λ p n t k ins more x tidy typed kind given.
      let sound = c.typed_is_sound.ensures p tidy typed in
      given_acts p sound (acts_from p n) (from_turns p n) (globals_from p sound typed n) given k kind;
}
