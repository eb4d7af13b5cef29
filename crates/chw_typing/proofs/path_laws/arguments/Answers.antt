use Rattle.chw_typing.proofs.PathSpines.{spine_argument, with_spine_argument}
use Rattle.chw_typing.proofs.path_laws.arguments.Goals as goal

pub returns : goal.returns
returns c = record { found = λ e a args i h. spine_argument args e a i h; changed = λ e a x args i h. with_spine_argument args e a x i h }
