use Rattle.chw_typing.proofs.Settling.{closed_settles}
use Rattle.chw_typing.proofs.found_laws.closed_settles.Goals as goal

pub returns : goal.returns
returns c = closed_settles
