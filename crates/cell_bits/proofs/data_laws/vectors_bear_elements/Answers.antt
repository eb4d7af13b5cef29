use Rattle.cell_bits.proofs.DataFields.{vector_bears}
use Rattle.cell_bits.proofs.data_laws.vectors_bear_elements.Goals as goal

pub returns : goal.returns
returns c = λ net path h width n wires elements each size has. vector_bears net path h width n wires elements each size has
