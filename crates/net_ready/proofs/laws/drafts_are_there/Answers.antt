use Rattle.net_ready.proofs.DraftsThere.{draft_there}
use Rattle.net_ready.proofs.laws.drafts_are_there.Goals as goal
use Rattle.std.proofs.Common.{refl}

pub returns : goal.returns
returns c = λ ground known at scope n e ready. draft_there ground known ready at scope n refl
