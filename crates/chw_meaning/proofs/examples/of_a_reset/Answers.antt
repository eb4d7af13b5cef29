use Rattle.chw_meaning.proofs.TopsShown.{reset_shown}
use Rattle.chw_meaning.proofs.examples.of_a_reset.Goals as goal

pub returns : goal.returns
returns c = let so = c.computed_meaning_is_so.ensures in reset_shown so.given so.ports so.fit so.meaning
