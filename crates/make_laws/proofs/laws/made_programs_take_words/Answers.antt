use Rattle.make_laws.proofs.Ports.{takes_words}
use Rattle.make_laws.proofs.laws.made_programs_take_words.Goals as goal

pub returns : goal.returns
returns c = takes_words
