use Rattle.net_built.proofs.Shown.{signed_product, element_by_nothing, addresses, memory_built}
use Rattle.net_built.proofs.examples.of_cells.Goals as goal

pub returns : goal.returns
returns c = record { product = signed_product; element = element_by_nothing; addresses = addresses; memory = memory_built }
