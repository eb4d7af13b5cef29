use Rattle.chw_bits.proofs.WordResults.{product_bits}
use Rattle.chw_bits.proofs.machine.product.Goals as goal

pub returns-clause-bits : goal.returns-clause-bits
returns-clause-bits c = product_bits 128 c.args.width c.args.a c.args.b c.lowest.result c.requires c.lowest.ensures.number
