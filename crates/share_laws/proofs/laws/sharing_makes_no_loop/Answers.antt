use Rattle.share_laws.proofs.NoLoop.{shared_no_loop}
use Rattle.share_laws.proofs.OneShared.{one_known}
use Rattle.share_laws.proofs.laws.sharing_makes_no_loop.Goals as goal

pub returns : goal.returns
returns c = λ flat shared sound no_loop hold s.
    shared_no_loop flat shared sound no_loop (λ w a b k l. one_known flat sound no_loop hold w a b k l) s
