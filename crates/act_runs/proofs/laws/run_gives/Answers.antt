use Rattle.act_runs.proofs.Gives.{run_acts, run_gives}
use Rattle.act_runs.proofs.laws.run_gives.Goals as goal

pub returns : goal.returns
returns c =
    let bodies = run_acts c.opening_is_typed.ensures.state c.opening_acts.ensures c.runs_act.ensures.runs in
    record { bodies = bodies; top = run_gives c.typed_is_sound.ensures c.made_definitions_replaced.ensures.none bodies c.wholes_act.ensures c.acts_gives.ensures.chain c.opening_gives.ensures }
