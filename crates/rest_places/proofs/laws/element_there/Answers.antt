use Rattle.rest_places.proofs.Elements.{no_get_of_written, no_at_of_written}
use Rattle.rest_places.proofs.laws.element_there.Goals as goal

pub returns : goal.returns
returns c = record { by_number = no_get_of_written; by_word = no_at_of_written }
