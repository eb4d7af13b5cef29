use Rattle.std.proofs.Common.{sym, ◌∙◌}
use Rattle.std.proofs.lemmas.Bool.{false≢true}
use Rattle.blif_text.specs.Statements.{IsName}
use Rattle.stimulus.proofs.Lists.{all_text_at}
use Rattle.blif_read.proofs.saying.are_names.Goals as goal

pub returns-then-not-is_name : goal.returns-then-not-is_name
returns-then-not-is_name c = (
  λ e. absurd (false≢true e),
  λ all. sym c.if-not-is_name.true ∙ c.is_name.ensures.1 (all_text_at IsName c.args.words.now c.loop-word.word-index _ c.loop-word-test.true all),
)
