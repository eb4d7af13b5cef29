use Rattle.cell_bits.proofs.DataAddresses.{address_bears, narrow_number, narrow_keeps}
use Rattle.cell_bits.proofs.data_laws.addresses_bear_numbers.Goals as goal

pub returns-clause-bears : goal.returns-clause-bears
returns-clause-bears c = λ net path h k n a bits b e has. address_bears net path h k n a bits b e has

pub returns-clause-number : goal.returns-clause-number
returns-clause-number c = λ bits. narrow_number bits

pub returns-clause-keeps : goal.returns-clause-keeps
returns-clause-keeps c = λ bits le. narrow_keeps bits le
