use Rattle.open_letrec.specs.Places.{Agrees, IsGrown}
use Rattle.open_letrec.proofs.places.Places.grow.Given as goal

abbrev pub invariant-loop : goal.invariant-loop
invariant-loop l = Agrees l.self × IsGrown l.fn.self l.self l.counter
