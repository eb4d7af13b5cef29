use Rattle.bit_laws.proofs.WideCells.{product_bits}
use Rattle.bit_laws.proofs.laws.bits_of_products.Goals as goal

pub returns : goal.returns
returns c = λ flat h cell sound has kind. product_bits flat h sound cell has kind
