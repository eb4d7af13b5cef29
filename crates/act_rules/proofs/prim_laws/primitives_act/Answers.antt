use Rattle.act_rules.proofs.PrimRules.{primitives_act}
use Rattle.act_rules.proofs.prim_laws.primitives_act.Goals as goal

pub returns : goal.returns
returns c = primitives_act c.unrolled_acts.ensures c.elements_act.ensures.by_types c.elements_act.ensures.by_literals c.delta_acts.ensures
