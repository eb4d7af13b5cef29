use Rattle.act_runs.proofs.Instances.{instance_acts}
use Rattle.act_runs.proofs.laws.instances_act.Goals as goal

pub returns : goal.returns
returns c = instance_acts (record {
  up_to_inline = c.made_acts.ensures;
  globals = c.unfolding_acts.ensures.globals;
  made_names = c.unfolding_acts.ensures.made;
  primitives = c.primitives_act.ensures;
  joins = c.joins_act.ensures;
  eta_function = c.eta_function_acts.ensures;
  operands = c.names_act.ensures.operands;
  arguments = c.names_act.ensures.arguments;
  results = c.names_act.ensures.results;
  spine = c.spine_acts.ensures;
}) c.typed_is_sound.ensures c.made_definitions_replaced.ensures.none
