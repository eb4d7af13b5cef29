use Rattle.rest_places.proofs.Lets.{bindings_named, no_constant_letrec}
use Rattle.rest_places.proofs.laws.no_unnamed_binding.Goals as goal

pub returns : goal.returns
returns c = record { named = bindings_named c.names_of_modes.ensures.decided; constant = no_constant_letrec }
