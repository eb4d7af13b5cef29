use Rattle.blif_read.proofs.Standing.{no_inputs}
use Rattle.blif_read.proofs.places.behind_inputs.Goals as goal

pub returns-in_default : goal.returns-in_default
returns-in_default c = no_inputs c.args.says.now c.in_default.not-Inputs
