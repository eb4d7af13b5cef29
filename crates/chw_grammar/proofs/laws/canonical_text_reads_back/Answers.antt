use Rattle.std.specs.Prelude.{◌≡◌, map}
use Rattle.chw_lexer.specs.Words.{words_of}
use Rattle.chw_grammar.specs.Lexemes.{lexemes_of}
use Rattle.chw_grammar.specs.Text.{tree_lexemes, Text}
use Rattle.chw_grammar.proofs.SameText.{same_text}
use Rattle.chw_grammar.proofs.Reprint.{sorted, spaced_text, read_again}
use Rattle.chw_grammar.proofs.laws.canonical_text_reads_back.Goals as goal

pub returns : goal.returns
returns c = λ text tokens others tree split read others_split.
    let words_are : words_of (Text tree) others ≡ map sorted (tree_lexemes tree) =
    c.spaced_words_are_split.ensures (Text tree) (map sorted (tree_lexemes tree)) others (spaced_text text tokens tree (c.words_are_tokens.ensures text tokens split) read) others_split in
    let found = read_again tree (lexemes_of text tokens) others read words_are in
    (found.again, found.reads, found.same, same_text found.again tree found.same)
