use Rattle.letrec_steps.proofs.Search.{sought_has_none_before, top_is_sought}
use Rattle.letrec_steps.proofs.laws.searches_from_tops.Goals as goal

pub returns : goal.returns
returns c = record { before = sought_has_none_before; sought = top_is_sought }
