use Rattle.rewriting.proofs.Around.{active_typed}
use Rattle.rewriting.proofs.place_laws.active_is_typed.Goals as goal

pub returns : goal.returns
returns c o at at' e x t p h typed d r = active_typed r h typed t d
