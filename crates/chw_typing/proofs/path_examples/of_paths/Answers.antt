use Rattle.std.proofs.Common.{refl}
use Rattle.chw_typing.proofs.path_examples.of_paths.Goals as goal

pub returns : goal.returns
returns c = record { found = refl; changed = refl; none = refl; argument = refl }
