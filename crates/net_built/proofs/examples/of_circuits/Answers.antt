use Rattle.net_built.proofs.Shown.{copy_built, register_built, product_built}
use Rattle.net_built.proofs.examples.of_circuits.Goals as goal

pub returns : goal.returns
returns c = record { copy = copy_built; register = register_built; product = product_built }
