use Rattle.blif_read.proofs.Standing.{no_outputs}
use Rattle.blif_read.proofs.places.behind_outputs.Goals as goal

pub returns-in_default : goal.returns-in_default
returns-in_default c = no_outputs c.args.says.now c.in_default.not-Outputs
