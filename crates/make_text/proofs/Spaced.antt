-- Tokens with their forms and a space behind each are the words of a text, and are read from it.
use Rattle.std.specs.Prelude.{◌≡◌, ℕ, List, [], ◌∷◌, map}
use Rattle.std.proofs.Common.{sym, ap}
use Rattle.chw_lexer.specs.Words.{Word as SortedBytes, word_of, words_of, Spaced, no_word, with_space}
use Rattle.chw_lexer.specs.declared.token.Token.{Token}
use Rattle.chw_grammar.specs.Lexemes.{Lexeme, lexemes_of}
use Rattle.chw_grammar.proofs.Again.{Alike}
use Rattle.chw_grammar.proofs.Formed.{Formed}
use Rattle.chw_grammar.proofs.Reprint.{sorted}
use Rattle.make_text.specs.MakeText.{spaced}

pub spaced_words : (ls : List Lexeme) → Formed ls → Spaced (spaced ls) (map sorted ls)
spaced_words [] formed = no_word
spaced_words (l ∷ ls) formed = with_space (sorted l) (spaced ls) (map sorted ls) formed.0 (spaced_words ls formed.1)

-- tokens with these words are alike
pub alike_words : (ls : List Lexeme) (text : List ℕ) (tokens : List Token) → words_of text tokens ≡ map sorted ls → Alike ls (lexemes_of text tokens)
alike_words [] text [] same = tt
alike_words [] text (t ∷ tokens) same = cc
alike_words (l ∷ ls) text [] same = cc
alike_words (l ∷ ls) text (t ∷ tokens) same =
    let head : word_of text t ≡ sorted l = cc in
    let tail : words_of text tokens ≡ map sorted ls = cc in
    (ap (λ (w : SortedBytes). w.sort) (sym head), ap (λ (w : SortedBytes). w.bytes) (sym head), alike_words ls text tokens tail)
