use Rattle.cell_bits.proofs.DataChoices.{tests_bear}
use Rattle.cell_bits.proofs.data_laws.tests_tell_words.Goals as goal

pub returns : goal.returns
returns c = λ net path h k n a tested words b e wide has. tests_bear net path h k n a tested words b e wide has
