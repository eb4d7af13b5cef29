use Rattle.blif_read.proofs.Standing.{no_model}
use Rattle.blif_read.proofs.places.behind_model.Goals as goal

pub returns-in_default : goal.returns-in_default
returns-in_default c = no_model c.args.says.now c.in_default.not-Model
