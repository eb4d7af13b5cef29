use Rattle.act_runs.proofs.Steps.{step_acts, step_gives}
use Rattle.act_runs.proofs.laws.steps_act.Goals as goal

pub returns : goal.returns
returns c =
    let law = c.typed_is_sound.ensures in
    let alone = c.made_definitions_replaced.ensures.none in
    let acts = step_acts law alone c.plug_acts.ensures c.instances_act.ensures in
    record { acts = acts; gives = step_gives law alone acts c.acts_gives.ensures.one }
