use Rattle.std.proofs.Common.{refl}
use Rattle.net_ready.proofs.PassesFew.{value_there}
use Rattle.net_ready.proofs.laws.ready_values_are_built.Goals as goal
use Rattle.net_ready.specs.Ready.{types_on}

pub returns : goal.returns
returns c = λ ground scope n e ready free. value_there ground scope n e free (types_on scope) ready refl
