use Rattle.act_runs.proofs.Gives.{opening_acts}
use Rattle.act_runs.proofs.laws.opening_acts.Goals as goal

pub returns : goal.returns
returns c = opening_acts c.typed_is_sound.ensures c.made_definitions_replaced.ensures.none c.plug_acts.ensures c.unfolding_acts.ensures.globals
