use Rattle.net_built.proofs.Nets.{net_once}
use Rattle.net_built.proofs.laws.one_net_built.Goals as goal

pub returns : goal.returns
returns c = λ p state a b free x y. net_once free x y
