use Rattle.rest_places.proofs.Lets.{no_let_in_sides, no_let_in_body, no_cycle}
use Rattle.rest_places.proofs.laws.no_let_in_let.Goals as goal

pub returns : goal.returns
returns c = record { side = no_let_in_sides; body = no_let_in_body; cycle = no_cycle }
