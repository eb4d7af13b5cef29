use Rattle.kept_letrecs.proofs.Front.{quiet_after_side, quiet_after_join}
use Rattle.kept_letrecs.proofs.laws.quiet_sides_kept.Goals as goal

pub returns : goal.returns
returns c = record { side = quiet_after_side; join = quiet_after_join }
