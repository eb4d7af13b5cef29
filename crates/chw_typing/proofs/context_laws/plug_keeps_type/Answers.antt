use Rattle.chw_typing.proofs.Plugged.{plugged}
use Rattle.chw_typing.proofs.context_laws.plug_keeps_type.Goals as goal

pub returns : goal.returns
returns c s kinds ks vars vs e x y t p h g d r f = plugged r h y f g t d
