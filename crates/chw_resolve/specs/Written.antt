-- Trees that were read from a text.
use Rattle.std.specs.Prelude.{ℕ, List}
use Rattle.chw_grammar.specs.Grammar.{Reads}
use Rattle.chw_grammar.specs.Lexemes.{lexemes_of}
use Rattle.chw_grammar.specs.declared.program.Tree.{Tree}
use Rattle.chw_lexer.specs.Tokens.{Tokens}
use Rattle.chw_lexer.specs.declared.token.Token.{Token}

-- the tokens of the text are read as this tree
pub record WasRead (text : List ℕ) (tree : Tree) : Type 0 where
  pub tokens : List Token
  pub split : Tokens text tokens
  pub reads : Reads (lexemes_of text tokens) tree
