use Rattle.net_built.proofs.CircuitsOnce.{body_once}
use Rattle.net_built.proofs.laws.one_circuit.Goals as goal

pub returns : goal.returns
returns c = λ ground e ins jns p q r v a b. body_once a b
