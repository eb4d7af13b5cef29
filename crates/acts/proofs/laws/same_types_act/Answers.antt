use Rattle.acts.specs.Levels.{thunk_runs, thunk_has}
use Rattle.acts.proofs.Levels.{from_turns}
use Rattle.acts.proofs.SameActs.{same_acts, as_same}
use Rattle.acts.proofs.laws.same_types_act.Goals as goal

pub returns : goal.returns
returns c = λ p n t u j k x' x tidy typed d e same. same_acts (c.typed_is_sound.ensures p tidy typed) (from_turns p n) (as_same d e same) (thunk_runs p x') (thunk_has p x)
