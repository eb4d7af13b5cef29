use Rattle.carrying.proofs.Yields.{shown_yielded, carried_yielded, held_yielded}
use Rattle.carrying.proofs.laws.what_is_shown_is_yielded.Goals as goal

pub returns : goal.returns
returns c = record {
  shown = λ p t th h b some s. shown_yielded c.number_of_made_bits.ensures.whole c.zero_exists.ensures.of_width some s;
  carried = λ p t th b some s. carried_yielded c.number_of_made_bits.ensures.whole c.zero_exists.ensures.of_width some s;
  held = λ p t v b some s. held_yielded c.number_of_made_bits.ensures.whole c.zero_exists.ensures.of_width some s;
}
