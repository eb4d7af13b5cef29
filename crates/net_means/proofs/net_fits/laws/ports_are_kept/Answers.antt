use Rattle.net_means.proofs.NetFits.PortRules.{ports_hold}
use Rattle.net_means.proofs.net_fits.laws.ports_are_kept.Goals as goal

pub returns : goal.returns
returns c = λ p state ports typed has. ports_hold c.facts.ensures c.steps_keep.ensures.origins p state ports typed has
