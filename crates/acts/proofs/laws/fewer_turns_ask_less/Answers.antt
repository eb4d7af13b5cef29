use Rattle.acts.proofs.Levels.{fewer_turns}
use Rattle.acts.proofs.laws.fewer_turns_ask_less.Goals as goal

pub returns : goal.returns
returns c = fewer_turns
