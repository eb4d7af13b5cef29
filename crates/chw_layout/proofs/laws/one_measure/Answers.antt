use Rattle.chw_layout.proofs.Measures.{measured_once}
use Rattle.chw_layout.proofs.laws.one_measure.Goals as goal

pub returns : goal.returns
returns c = λ datas t m n a b. measured_once a b
