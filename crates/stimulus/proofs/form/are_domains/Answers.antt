use Rattle.std.proofs.Common.{sym, ◌∙◌}
use Rattle.std.proofs.lemmas.Bool.{false≢true}
use Rattle.stimulus.specs.Stimulus.{IsDomain}
use Rattle.stimulus.proofs.Lists.{all_text_at}
use Rattle.stimulus.proofs.form.are_domains.Goals as goal

pub returns-then-not-is_domain : goal.returns-then-not-is_domain
returns-then-not-is_domain c = (
  λ e. absurd (false≢true e),
  λ all. sym c.if-not-is_domain.true ∙ c.is_domain.ensures.1 (all_text_at IsDomain c.args.domains.now c.loop-domain.domain-index _ c.loop-domain-test.true all),
)
