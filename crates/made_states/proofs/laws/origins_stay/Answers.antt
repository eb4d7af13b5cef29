use Rattle.made_states.proofs.Origins.{one_origin_each, runs_keep_origins, steps_keep_origins}
use Rattle.made_states.proofs.laws.origins_stay.Goals as goal

pub returns : goal.returns
returns c = record {
  steps = steps_keep_origins;
  runs = runs_keep_origins;
  one = one_origin_each;
}
