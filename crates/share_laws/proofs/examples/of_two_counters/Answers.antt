use Rattle.share_laws.proofs.CountersShown.{counters_differ, counters_stay}
use Rattle.share_laws.proofs.examples.of_two_counters.Goals as goal

pub returns : goal.returns
returns c = record { differ = counters_differ; stay = counters_stay }
