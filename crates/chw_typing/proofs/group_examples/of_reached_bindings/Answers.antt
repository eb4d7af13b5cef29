use Rattle.chw_typing.proofs.GroupShown.{first_reached, second_reached, third_not_reached}
use Rattle.chw_typing.proofs.group_examples.of_reached_bindings.Goals as goal

pub returns : goal.returns
returns c = record { first = first_reached; second = second_reached; third = third_not_reached }
