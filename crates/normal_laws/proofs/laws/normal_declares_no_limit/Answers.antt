use Rattle.std.proofs.Common.{refl}
use Rattle.rewriting.specs.Origins.{made_of}
use Rattle.rewriting.specs.Steps.{origins_in}
use Rattle.normal_laws.proofs.Declared.{limit_stands}
use Rattle.normal_laws.proofs.laws.normal_declares_no_limit.Goals as goal

pub returns : goal.returns
returns c p state m it path l typed is h blocked =
    limit_stands (origins_in p state) c.one_measure.ensures (c.steps_keep.ensures.origins p state typed).sound (made_of it) it.body h path l blocked refl
