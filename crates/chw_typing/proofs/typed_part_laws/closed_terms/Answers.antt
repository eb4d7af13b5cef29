use Rattle.chw_typing.proofs.Lowered.{moved_typed, closed_typed}
use Rattle.chw_typing.proofs.typed_part_laws.closed_terms.Goals as goal

pub returns : goal.returns
returns c = record { moved = moved_typed; anywhere = closed_typed }
