use Rattle.std.specs.Prelude.{◌≡◌, zero, map}
use Rattle.chw_lexer.specs.Words.{words_of}
use Rattle.chw_grammar.specs.Lexemes.{lexemes_of}
use Rattle.chw_grammar.specs.Text.{Text, tree_lexemes}
use Rattle.chw_grammar.proofs.Reprint.{sorted, spaced_text}
use Rattle.text_laws.proofs.NoFault.{shallow_words}
use Rattle.text_laws.proofs.TreesFit.{canonical_shallow}
use Rattle.text_laws.proofs.laws.canonical_text_is_shallow.Goals as goal

pub returns : goal.returns
returns c = λ text tokens others tree split read low others_split.
    let words_are : words_of (Text tree) others ≡ map sorted (tree_lexemes tree) =
    c.spaced_words_are_split.ensures (Text tree) (map sorted (tree_lexemes tree)) others
    (spaced_text text tokens tree (c.words_are_tokens.ensures text tokens split) read) others_split in
    shallow_words zero (tree_lexemes tree) (Text tree) others words_are (canonical_shallow (lexemes_of text tokens) tree read low)
