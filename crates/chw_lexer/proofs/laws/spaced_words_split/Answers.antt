use Rattle.chw_lexer.proofs.SpacedWords.{split_spaced}
use Rattle.chw_lexer.proofs.laws.spaced_words_split.Goals as goal

pub returns : goal.returns
returns c = λ text words spaced. let split = split_spaced text words spaced in (split.tokens, split.splits)
