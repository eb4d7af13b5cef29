use Rattle.rest_places.proofs.Constants.{constants_are_known}
use Rattle.rest_places.proofs.Standing.{constants_stand}
use Rattle.rest_places.proofs.laws.constants_are_known.Goals as goal

pub returns : goal.returns
returns c =
    let names = c.names_of_modes.ensures in
    let unrolled = c.nothing_unrolls.ensures in
    record {
      known = constants_are_known names.decided names.kind unrolled;
      constant = constants_stand names.decided names.kind names.kept unrolled;
    }
