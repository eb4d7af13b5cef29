use Rattle.std.proofs.Common.{refl}
use Rattle.std.specs.Fmt.{digits}
use Rattle.bit_laws.proofs.examples.of_cells.Goals as goal

pub returns : goal.returns
unfolding digits
returns c = record { register = refl; sum = refl; shift = refl }
