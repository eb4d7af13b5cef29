use Rattle.cell_bits.proofs.DataFields.{constructed_bears}
use Rattle.cell_bits.proofs.data_laws.constructors_bear_encodings.Goals as goal

pub returns : goal.returns
returns c = λ net path h tag number width n wires values each le has. constructed_bears net path h tag number width n wires values each le has
