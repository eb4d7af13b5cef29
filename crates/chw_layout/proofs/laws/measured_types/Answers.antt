use Rattle.chw_layout.proofs.Measures.{representable_measured, measured_representable}
use Rattle.chw_layout.proofs.laws.measured_types.Goals as goal

pub returns : goal.returns
returns c = record { there = λ datas t r. representable_measured r; back = λ datas t m d. measured_representable d }
