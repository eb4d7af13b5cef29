use Rattle.type_laws.proofs.Shifted.{put_same}
use Rattle.type_laws.proofs.laws.put_keeps_same.Goals as goal

pub returns : goal.returns
returns c t u a b x h g f = put_same t u a b x h g f
