use Rattle.blif_read.proofs.Standing.{no_node}
use Rattle.blif_read.proofs.places.behind_node.Goals as goal

pub returns-in_default : goal.returns-in_default
returns-in_default c = no_node c.args.says.now c.in_default.not-Table c.in_default.not-Latch c.in_default.not-End
