use Rattle.make_typed.proofs.Named.{well_named}
use Rattle.make_typed.proofs.Shape.{shaped}
use Rattle.make_typed.proofs.laws.made_names_are_known.Goals as goal

pub returns : goal.returns
returns c = λ taps tree made. well_named taps tree (shaped taps tree made.same) made.some made.few
