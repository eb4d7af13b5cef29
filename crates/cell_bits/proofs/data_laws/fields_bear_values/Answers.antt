use Rattle.cell_bits.proofs.DataFields.{fields_bear, fields_bear_each}
use Rattle.cell_bits.proofs.data_laws.fields_bear_values.Goals as goal

pub returns-clause-apart : goal.returns-clause-apart
returns-clause-apart c = λ net path h n fields widths values cut. fields_bear net path h n fields widths values cut

pub returns-clause-in_order : goal.returns-clause-in_order
returns-clause-in_order c = λ net path h n fields widths values cut. fields_bear_each net path h n fields widths values cut
