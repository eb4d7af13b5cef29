use Rattle.rewriting.proofs.PlaceShown.{named_side, unnamed_side, body_below}
use Rattle.rewriting.proofs.place_examples.of_letrecs.Goals as goal

pub returns : goal.returns
returns c = record { named = named_side; unnamed = unnamed_side; body = body_below }
