use Rattle.std.proofs.Common.{◌∙◌, ap}
use Rattle.chw_names.specs.Twices.{twices}
use Rattle.chw_names.specs.Words.{least_of}
use Rattle.chw_names.proofs.Earliest.{shows_least}
use Rattle.chw_names.proofs.twices.twice.Goals as goal

pub returns : goal.returns
returns c =
    shows_least (twices c.args.tree.now) c.word.result
    (c.word.ensures ∙ c.in_ok-within.ensures.least ∙ ap (λ met. least_of met (twices c.args.tree.now)) c.new-least.ensures)
