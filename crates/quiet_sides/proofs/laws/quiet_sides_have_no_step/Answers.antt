use Rattle.quiet_sides.proofs.Passed.{quiet_has_no_step, quiet_places_have_no_step, quiet_sides_are_passed}
use Rattle.quiet_sides.proofs.laws.quiet_sides_have_no_step.Goals as goal

pub returns : goal.returns
returns c = record { side = quiet_has_no_step; place = quiet_places_have_no_step; letrec = quiet_sides_are_passed }
