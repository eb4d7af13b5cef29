use Rattle.net_means.proofs.SideBits.Fields.{fields_have}
use Rattle.net_means.proofs.side_bits.laws.variables_of_alternatives_bear.Goals as goal

pub returns : goal.returns
returns c = fields_have c.facts.ensures
