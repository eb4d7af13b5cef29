use Rattle.chw_types.specs.Arguments.{arguments}
use Rattle.type_laws.proofs.Arguing.{same_arguments}
use Rattle.type_laws.proofs.PutSame.{same_put}
use Rattle.type_laws.proofs.laws.arguments_keep_same.Goals as goal

pub returns : goal.returns
returns c t u ts us h g f = same_put h (arguments ts) (arguments us) (same_arguments ts us g) f
