use Rattle.chw_typing.proofs.FoundShown.{zeros_kept, zeros_left_out}
use Rattle.chw_typing.proofs.found_examples.of_type_arguments.Goals as goal

pub returns : goal.returns
returns c = record { kept = zeros_kept; left_out = zeros_left_out }
