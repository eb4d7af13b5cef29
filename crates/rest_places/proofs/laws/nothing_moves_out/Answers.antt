use Rattle.rest_places.proofs.Demanded.{no_demanded_let, no_demanded_case}
use Rattle.rest_places.proofs.laws.nothing_moves_out.Goals as goal

pub returns : goal.returns
returns c = record { letrec = no_demanded_let; case = no_demanded_case }
