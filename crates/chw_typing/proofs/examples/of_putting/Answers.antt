use Rattle.chw_typing.proofs.Shown.{only_up_to_naturals}
use Rattle.chw_typing.proofs.examples.of_putting.Goals as goal

pub returns : goal.returns
returns c = only_up_to_naturals
