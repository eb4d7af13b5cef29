use Rattle.chw_typing.proofs.GroupShown.{all_exchanged, each_free_once}
use Rattle.chw_typing.proofs.group_examples.of_variables.Goals as goal

pub returns : goal.returns
returns c = record { exchanged = all_exchanged; free = each_free_once }
