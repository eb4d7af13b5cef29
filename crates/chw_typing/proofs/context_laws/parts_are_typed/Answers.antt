use Rattle.chw_typing.proofs.Typed.{part_typed}
use Rattle.chw_typing.proofs.context_laws.parts_are_typed.Goals as goal

pub returns : goal.returns
returns c s kinds ks vars vs e x t p h g d r = part_typed r h g t d
