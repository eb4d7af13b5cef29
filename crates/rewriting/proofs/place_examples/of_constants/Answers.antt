use Rattle.rewriting.proofs.PlaceShown.{constant_argument, no_words_in_values}
use Rattle.rewriting.proofs.place_examples.of_constants.Goals as goal

pub returns : goal.returns
returns c = record { argument = constant_argument; values = no_words_in_values }
