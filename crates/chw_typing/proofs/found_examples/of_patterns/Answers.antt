use Rattle.chw_typing.proofs.FoundShown.{name_of_a_pattern}
use Rattle.chw_typing.proofs.found_examples.of_patterns.Goals as goal

pub returns : goal.returns
returns c = name_of_a_pattern
