use Rattle.kept_letrecs.proofs.Sides.{reached_by_side}
use Rattle.kept_letrecs.proofs.laws.reached_after_side.Goals as goal

pub returns : goal.returns
returns c front t x x' back e all keeps i l = reached_by_side front t x x' back e all keeps i l
