-- Tokens without their places: what a grammar speaks of.
use Rattle.std.specs.Prelude.{ℕ, ◌≤◌, List, [], ◌∷◌, ◌++◌, length, map, slice_range}
use Rattle.chw_lexer.specs.Forms.{HasForm}
use Rattle.chw_lexer.specs.declared.token.Sort.{Sort}
use Rattle.chw_lexer.specs.declared.token.Token.{Token}

pub record Word : Type 0 where
  pub sort : Sort
  pub bytes : List ℕ

-- the token's place is within the text
abbrev pub LiesIn : List ℕ → Token → Type 0
LiesIn text token = (token.span.from ≤ token.span.to) × (token.span.to ≤ length text)

-- a token's word in its text
abbrev pub word_of : List ℕ → Token → Word
word_of text token = record { sort = token.sort; bytes = slice_range text token.span.from token.span.to }

-- the words of the tokens of a text
abbrev pub words_of : List ℕ → List Token → List Word
words_of text tokens = map (word_of text) tokens

-- the word is a token of its sort
abbrev pub IsToken : Word → Type 0
IsToken word = HasForm word.sort word.bytes

-- the text is these words, each of them a token, with a space or a line feed behind each
pub data Spaced : List ℕ → List Word → Type 0 where
  no_word : Spaced [] []
  with_space : (word : Word) (text : List ℕ) (words : List Word) → IsToken word → Spaced text words → Spaced (word.bytes ++ 32 ∷ text) (word ∷ words)
  with_line_feed : (word : Word) (text : List ℕ) (words : List Word) → IsToken word → Spaced text words → Spaced (word.bytes ++ 10 ∷ text) (word ∷ words)
