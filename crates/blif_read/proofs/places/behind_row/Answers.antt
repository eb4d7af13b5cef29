use Rattle.std.proofs.Common.{◌∙◌}
use Rattle.blif_read.proofs.Standing.{no_row}
use Rattle.blif_read.proofs.places.behind_row.Goals as goal

pub returns-in_default : goal.returns-in_default
returns-in_default c = c.behind_node.ensures ∙ no_row c.args.says.now c.in_default.not-Row
