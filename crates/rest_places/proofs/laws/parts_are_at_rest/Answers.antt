use Rattle.rest_places.proofs.Parts.{side_at_rest, body_at_rest, scrutinee_at_rest, branch_at_rest}
use Rattle.rest_places.proofs.laws.parts_are_at_rest.Goals as goal

pub returns : goal.returns
returns c =
    record {
      side = side_at_rest c.names_of_modes.ensures.decided c.names_of_modes.ensures.kept;
      body = body_at_rest c.names_of_modes.ensures.decided;
      scrutinee = scrutinee_at_rest c.names_of_modes.ensures.decided;
      branch = branch_at_rest c.names_of_modes.ensures.decided;
    }
