use Rattle.chw_typing.proofs.Exchanged.{shift_exchanged, exchanged_back}
use Rattle.chw_typing.proofs.group_laws.exchanging.Goals as goal

pub returns : goal.returns
returns c = record { shift = shift_exchanged; back = exchanged_back }
