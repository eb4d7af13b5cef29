use Rattle.act_runs.proofs.Gives.{bodies_give, runs_keep}
use Rattle.act_runs.proofs.Kept.{steps_keep}
use Rattle.act_runs.proofs.laws.runs_act.Goals as goal

pub returns : goal.returns
returns c =
    let stay = c.states_stay_typed.ensures.steps in
    let steps = steps_keep (record {
      sound = c.typed_is_sound.ensures;
      alone = c.made_definitions_replaced.ensures.none;
      plug = c.plug_acts.ensures;
      unfolds = c.unfolding_acts.ensures.globals;
      steps = c.steps_act.ensures.acts;
      special = c.special_acts.ensures;
      after = c.new_states_keep.ensures;
    }) stay in
    record { steps = steps; runs = runs_keep stay steps; gives = bodies_give c.typed_is_sound.ensures c.made_definitions_replaced.ensures.none c.acts_gives.ensures.chain }
