use Rattle.open_letrec.proofs.Wholes.{joined_flat}
use Rattle.open_letrec.proofs.laws.joined_is_flat.Goals as goal

pub returns : goal.returns
returns c origins at o cs x h n some = joined_flat origins at o.settled o.left cs o.body x h n some
