use Rattle.act_runs.proofs.Evaluated.{evaluation}
use Rattle.act_runs.proofs.laws.evaluated_acts.Goals as goal

pub returns : goal.returns
returns c = λ p e t tidy typed kind has. let both = evaluation p (c.typed_is_sound.ensures p tidy typed) typed e t kind has in (both.from, both.to)
