use Rattle.letrec_steps.proofs.Below.{quiet_letrec_has_none, variable_has_none}
use Rattle.letrec_steps.proofs.laws.none_below_letrecs.Goals as goal

pub returns : goal.returns
returns c = record { letrec = quiet_letrec_has_none; variable = variable_has_none }
