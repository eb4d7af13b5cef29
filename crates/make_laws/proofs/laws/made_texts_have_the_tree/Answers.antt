use Rattle.std.specs.Prelude.{◌≡◌, List}
use Rattle.std.proofs.Common.{subst}
use Rattle.chw_lexer.specs.declared.token.Token.{Token}
use Rattle.chw_grammar.specs.Grammar.{Reads}
use Rattle.chw_grammar.specs.Lexemes.{lexemes_of}
use Rattle.chw_grammar.specs.Places.{Same}
use Rattle.chw_grammar.specs.declared.program.Tree.{Tree}
use Rattle.make_text.specs.MakeText.{make_text}
use Rattle.make_text.specs.MakeTree.{make_tree}
use Rattle.make_laws.proofs.laws.made_texts_have_the_tree.Goals as goal

pub returns : goal.returns
returns c = λ taps tokens tree small split reads.
    let read = c.made_texts_are_read.ensures taps small in
    let tokens_are : read.0 ≡ tokens = c.one_splitting.ensures (make_text taps) read.0 tokens read.2 split in
    let moved : Reads (lexemes_of (make_text taps) tokens) read.1 =
    subst (λ (ts : List Token). Reads (lexemes_of (make_text taps) ts) read.1) tokens_are read.3 in
    let tree_is : read.1 ≡ tree = c.one_tree.ensures (lexemes_of (make_text taps) tokens) read.1 tree moved reads in
    subst (λ (t : Tree). Same t (make_tree taps)) tree_is read.4
