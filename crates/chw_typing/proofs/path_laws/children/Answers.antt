use Rattle.chw_typing.proofs.PathChildren.{child_of_with_child, with_same_child, with_child_twice, child_apart}
use Rattle.chw_typing.proofs.path_laws.children.Goals as goal

pub returns : goal.returns
returns c = record { found = child_of_with_child; same = with_same_child; twice = with_child_twice; apart = child_apart }
