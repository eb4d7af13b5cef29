use Rattle.std.proofs.Common.{ap, ◌∙◌, refl}
use Rattle.chw_lexer.specs.Words.{words_of}
use Rattle.chw_lexer.proofs.SpacedWords.{split_spaced}
use Rattle.chw_lexer.proofs.Uniqueness.{one_splitting}
use Rattle.chw_lexer.proofs.laws.spaced_words_are_split.Goals as goal

pub returns : goal.returns
returns c = λ text words tokens spaced splits.
    let split = split_spaced text words spaced in ap (words_of text) (one_splitting split.splits splits refl refl) ∙ split.words_are
