use Rattle.share_laws.proofs.OneShared.{one_shared}
use Rattle.share_laws.proofs.laws.one_shared_net.Goals as goal

pub returns : goal.returns
returns c = λ flat a b sound no_loop hold s t. one_shared flat sound no_loop hold a b s t
