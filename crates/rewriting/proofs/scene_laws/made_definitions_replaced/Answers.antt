use Rattle.rewriting.proofs.NoMade.{no_made_typed}
use Rattle.rewriting.proofs.PutMade.{made_put}
use Rattle.rewriting.proofs.scene_laws.made_definitions_replaced.Goals as goal

pub returns : goal.returns
returns c = record { put = λ s types o kinds vars e t h h' p g d. made_put d h types h' o p g; none = no_made_typed }
