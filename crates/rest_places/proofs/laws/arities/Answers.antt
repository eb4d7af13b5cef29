use Rattle.rest_places.proofs.Spines.{prim_arity, con_arity}
use Rattle.rest_places.proofs.laws.arities.Goals as goal

pub returns : goal.returns
returns c = record { primitive = prim_arity; constructor = con_arity }
