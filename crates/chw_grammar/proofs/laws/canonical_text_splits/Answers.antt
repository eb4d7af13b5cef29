use Rattle.chw_grammar.specs.Text.{Text}
use Rattle.chw_grammar.proofs.Reprint.{spaced_text}
use Rattle.chw_grammar.proofs.laws.canonical_text_splits.Goals as goal

pub returns : goal.returns
returns c = λ text tokens tree split read. c.spaced_words_split.ensures (Text tree) _ (spaced_text text tokens tree (c.words_are_tokens.ensures text tokens split) read)
