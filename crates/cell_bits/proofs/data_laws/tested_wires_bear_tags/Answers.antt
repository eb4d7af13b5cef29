use Rattle.cell_bits.proofs.DataChoices.{tested_bears}
use Rattle.cell_bits.proofs.data_laws.tested_wires_bear_tags.Goals as goal

pub returns : goal.returns
returns c = λ net path h datas t width n a front behind b e f has. tested_bears net path h datas t width n a front behind b e f has
