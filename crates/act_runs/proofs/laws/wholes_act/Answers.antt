use Rattle.act_runs.proofs.Wholes.{wholes_act}
use Rattle.act_runs.proofs.laws.wholes_act.Goals as goal

pub returns : goal.returns
returns c = wholes_act c.typed_is_sound.ensures c.made_definitions_replaced.ensures.none
