use Rattle.rest_places.proofs.Words.{no_words_on_literals}
use Rattle.rest_places.proofs.laws.computes.Goals as goal

pub returns : goal.returns
returns c = no_words_on_literals
