use Rattle.act_runs.proofs.Abstracted.{abstracted_acts}
use Rattle.act_runs.proofs.laws.abstracted_acts.Goals as goal

pub returns : goal.returns
returns c = abstracted_acts c.typed_is_sound.ensures
