use Rattle.normal_forms.proofs.FirstBlocked.{one_first_blocked}
use Rattle.normal_forms.proofs.laws.one_first_blocked.Goals as goal

pub returns : goal.returns
returns c = one_first_blocked
