use Rattle.act_rules.proofs.Instances.{instance_acts}
use Rattle.act_rules.proofs.step_laws.instance_acts.Goals as goal

pub returns : goal.returns
returns c = instance_acts c.made_acts.ensures c.spine_acts.ensures c.settings_of_scenes.ensures.sound c.origins_keep_types.ensures.alone
