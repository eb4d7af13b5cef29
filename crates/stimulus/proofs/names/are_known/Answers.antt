use Rattle.std.proofs.Common.{sym, ◌∙◌}
use Rattle.std.proofs.lemmas.Bool.{false≢true}
use Rattle.stimulus.specs.Stimulus.{IsKnown}
use Rattle.stimulus.proofs.Lists.{all_text_at}
use Rattle.stimulus.proofs.names.are_known.Goals as goal

pub returns-then-not-is_known : goal.returns-then-not-is_known
returns-then-not-is_known c = (
  λ e. absurd (false≢true e),
  λ all. sym c.if-not-is_known.true ∙ c.is_known.ensures.1 (all_text_at (IsKnown c.args.ports.now) c.args.domains.now c.loop-domain.domain-index _ c.loop-domain-test.true all),
)
