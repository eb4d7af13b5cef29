use Rattle.make_text.proofs.Short.{text_short}
use Rattle.make_text.proofs.laws.made_texts_are_short.Goals as goal

pub returns : goal.returns
returns c = text_short
