use Rattle.share_laws.proofs.ExamplesShown.{initials_differ, pipelines_are_same}
use Rattle.share_laws.proofs.examples.of_registers.Goals as goal

pub returns : goal.returns
returns c = record { same = pipelines_are_same; initials = initials_differ }
