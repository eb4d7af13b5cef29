use Rattle.chw_typing.proofs.Free.{free_occur, free_distinct}
use Rattle.chw_typing.proofs.group_laws.free_variables.Goals as goal

pub returns : goal.returns
returns c = record { occurring = free_occur; distinct = free_distinct }
