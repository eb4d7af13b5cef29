use Rattle.std.proofs.Common.{ap, ◌∙◌}
use Rattle.chw_terms.specs.Occurs.{occurs}
use Rattle.chw_terms.proofs.Found.{found_is}
use Rattle.chw_terms.proofs.occurrence.occurs.Goals as goal

pub returns : goal.returns
returns c = found_is (occurs c.args.t.now) c.from.result c.occurs_at.result c.occurs_at.ensures ∙ ap (occurs c.args.t.now) c.from.ensures
