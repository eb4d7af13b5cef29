use Rattle.share_laws.proofs.SharedExists.{some_shared}
use Rattle.share_laws.proofs.laws.some_shared_net.Goals as goal

pub returns : goal.returns
returns c = λ flat sound no_loop none. some_shared flat sound no_loop none
