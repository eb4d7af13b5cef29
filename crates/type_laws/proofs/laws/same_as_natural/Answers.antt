use Rattle.type_laws.proofs.PutSame.{natural_as, polys_as}
use Rattle.type_laws.proofs.laws.same_as_natural.Goals as goal

pub returns : goal.returns
returns c t u h = (natural_as h, polys_as h)
