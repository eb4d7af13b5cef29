use Rattle.act_rules.proofs.StepSpines.{applied_acts}
use Rattle.act_rules.proofs.step_laws.spine_acts.Goals as goal

pub returns : goal.returns
returns c = λ p types o kinds vars core' core rest h g f. applied_acts c.plug_acts.ensures p types o kinds vars h g core' core rest f
