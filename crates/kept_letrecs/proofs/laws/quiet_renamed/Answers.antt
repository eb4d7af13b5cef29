use Rattle.kept_letrecs.proofs.QuietRenamed.{quiet_renamed}
use Rattle.kept_letrecs.proofs.laws.quiet_renamed.Goals as goal

pub returns : goal.returns
returns c e ρ h = quiet_renamed ρ h
