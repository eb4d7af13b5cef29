use Rattle.rewriting.proofs.Lambdas.{one_under}
use Rattle.rewriting.proofs.scene_laws.one_under_lambdas.Goals as goal

pub returns : goal.returns
returns c vars vs vs' e x x' t p p' h g = one_under h g
