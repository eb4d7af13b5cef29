use Rattle.chw_typing.proofs.PartPlaces.{argument_is_spine, child_is_spine}
use Rattle.chw_typing.proofs.part_laws.spines_below_spines.Goals as goal

pub returns-clause-arguments : goal.returns-clause-arguments
returns-clause-arguments c = λ e a args i h. argument_is_spine args e a i h

pub returns-clause-children : goal.returns-clause-children
returns-clause-children c = λ h args i. child_is_spine h args i
