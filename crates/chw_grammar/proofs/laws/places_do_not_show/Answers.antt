use Rattle.chw_grammar.proofs.SameText.{same_text}
use Rattle.chw_grammar.proofs.laws.places_do_not_show.Goals as goal

pub returns : goal.returns
returns c = same_text
