use Rattle.net_ready.proofs.PassesFew.{passes_few}
use Rattle.net_ready.proofs.laws.passes_are_few.Goals as goal

pub returns : goal.returns
returns c = λ ground scope n e k known free passes. passes_few ground scope n e free k known passes
