use Rattle.net_means.proofs.SideBits.Cases.{case_bears}
use Rattle.net_means.proofs.side_bits.laws.cases_bear.Goals as goal

pub returns : goal.returns
returns c = λ p scope γ δ net path h n w t x alts on piece results g. case_bears c.facts.ensures c.same_values.ensures p scope γ δ net path h n w t x alts on piece results g
