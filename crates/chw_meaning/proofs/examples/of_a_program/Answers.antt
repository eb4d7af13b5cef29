use Rattle.chw_meaning.proofs.WholeShown.{whole_program}
use Rattle.chw_meaning.proofs.examples.of_a_program.Goals as goal

pub returns : goal.returns
returns c = whole_program c.computed_meaning_is_so.ensures.fit c.computed_meaning_is_so.ensures.meaning
