use Rattle.std.proofs.Common.{sym, ◌∙◌}
use Rattle.std.proofs.lemmas.Bool.{false≢true}
use Rattle.stimulus.specs.Words.{HasDigits}
use Rattle.stimulus.proofs.Lists.{all_text_at}
use Rattle.stimulus.proofs.form.have_digits.Goals as goal

pub returns-then-not-has_digits : goal.returns-then-not-has_digits
returns-then-not-has_digits c = (
  λ e. absurd (false≢true e),
  λ all. sym c.if-not-has_digits.true ∙ c.has_digits.ensures.1 (all_text_at HasDigits c.args.parts.now c.loop-part.part-index _ c.loop-part-test.true all),
)
