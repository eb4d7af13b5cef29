use Rattle.std.specs.Prelude.{◌≡◌, ℕ, List, map}
use Rattle.std.proofs.Common.{subst, ◌∙◌}
use Rattle.chw_lexer.specs.Tokens.{Tokens}
use Rattle.chw_lexer.specs.Words.{Word as SortedBytes}
use Rattle.chw_lexer.specs.declared.token.Token.{Token}
use Rattle.chw_grammar.specs.Grammar.{Reads}
use Rattle.chw_grammar.specs.Lexemes.{lexemes_of}
use Rattle.chw_grammar.specs.Places.{Same}
use Rattle.chw_grammar.specs.Text.{Text}
use Rattle.chw_grammar.specs.declared.program.Tree.{Tree}
use Rattle.chw_grammar.proofs.AgainTrees.{tree_again}
use Rattle.chw_grammar.proofs.Reprint.{sorted}
use Rattle.make_text.specs.MakeText.{spaced}
use Rattle.make_text.specs.MakeTree.{make_tree}
use Rattle.make_text.proofs.Description.{made_readable}
use Rattle.make_text.proofs.Spaced.{alike_words, spaced_words}
use Rattle.make_text.proofs.laws.made_texts_are_read.Goals as goal

same_again : (a b c : Tree) → Same a b → Same b c → Same a c
same_again a b c one two = one ∙ two

pub returns : goal.returns
returns c = λ taps small.
    let tree = make_tree taps in
    let from = made_readable taps small in
    let text : List ℕ = spaced from.lexemes in
    let words : List SortedBytes = map sorted from.lexemes in
    let are_words = spaced_words from.lexemes from.formed in
    let split = c.spaced_words_split.ensures text words are_words in
    let tokens_are = c.spaced_words_are_split.ensures text words split.0 are_words split.1 in
    let read = tree_again from.lexemes (lexemes_of text split.0) tree from.reads (alike_words from.lexemes text split.0 tokens_are) in
    let others = c.canonical_text_splits.ensures text split.0 read.again split.1 read.reads in
    let again = c.canonical_text_reads_back.ensures text split.0 others.0 read.again split.1 read.reads others.1 in
    let texts_are : Text read.again ≡ Text tree = c.places_do_not_show.ensures read.again tree read.same in
    subst (λ (z : List ℕ). (tokens : List Token) × (other : Tree) × Tokens z tokens × Reads (lexemes_of z tokens) other × Same other tree) texts_are
    (others.0, again.0, others.1, again.1, same_again again.0 read.again tree again.2 read.same)
