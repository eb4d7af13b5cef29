use Rattle.std.proofs.Common.{sym, ◌∙◌}
use Rattle.std.proofs.lemmas.Bool.{false≢true}
use Rattle.stimulus.specs.Words.{IsPair}
use Rattle.stimulus.proofs.Lists.{all_text_at}
use Rattle.stimulus.proofs.form.are_pairs.Goals as goal

pub returns-then-not-is_pair : goal.returns-then-not-is_pair
returns-then-not-is_pair c = (
  λ e. absurd (false≢true e),
  λ all. sym c.if-not-is_pair.true ∙ c.is_pair.ensures.1 (all_text_at IsPair c.args.parts.now c.loop-part.part-index _ c.loop-part-test.true all),
)
