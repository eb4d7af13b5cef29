use Rattle.chw_lexer.proofs.SpacedWords.{forms}
use Rattle.chw_lexer.proofs.laws.words_are_tokens.Goals as goal

pub returns : goal.returns
returns c = forms
