use Rattle.chw_typing.proofs.Lowered.{lowered_typed, in_place_typed, in_place_puts}
use Rattle.chw_typing.proofs.typed_part_laws.one_variable_less.Goals as goal

pub returns : goal.returns
returns c = record { lowered = lowered_typed; put = in_place_typed; terms = in_place_puts }
