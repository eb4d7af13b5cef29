use Rattle.letrec_steps.proofs.Tops.{places_are_below_top, below_top_is_place, top_is_typed}
use Rattle.letrec_steps.proofs.laws.places_below_tops.Goals as goal

pub returns : goal.returns
returns c = record {
  below = places_are_below_top;
  active = below_top_is_place;
  typed = top_is_typed;
}
