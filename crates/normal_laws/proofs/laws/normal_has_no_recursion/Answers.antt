use Rattle.std.proofs.Common.{refl}
use Rattle.rewriting.specs.Origins.{made_of}
use Rattle.rewriting.specs.Steps.{origins_in}
use Rattle.normal_laws.proofs.Recursion.{no_recursion}
use Rattle.normal_laws.proofs.laws.normal_has_no_recursion.Goals as goal

pub returns : goal.returns
returns c p state m it path cycle typed is h blocked = no_recursion (origins_in p state) (made_of it) it.body path cycle h blocked refl
