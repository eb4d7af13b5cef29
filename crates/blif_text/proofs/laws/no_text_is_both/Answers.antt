use Rattle.blif_text.proofs.NoBoth.{no_text_is_both as shown}
use Rattle.blif_text.proofs.laws.no_text_is_both.Goals as goal

pub returns : goal.returns
returns c = shown
