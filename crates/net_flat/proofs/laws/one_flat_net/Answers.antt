use Rattle.net_flat.proofs.OneFlat.{one_flat}
use Rattle.net_flat.proofs.laws.one_flat_net.Goals as goal

pub returns : goal.returns
returns c = one_flat
