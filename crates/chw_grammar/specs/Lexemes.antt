-- Tokens with their places, and what each is to the grammar.
use Rattle.std.specs.Prelude.{ℕ, List, [], ◌∷◌, map, slice_range, codes, if◌then◌else◌}
use Rattle.std.specs.Str.{bytes_eq}
use Rattle.chw_lexer.specs.declared.token.Sort.{Sort}
use Rattle.chw_lexer.specs.declared.token.Sort.TheVariants as sorts
use Rattle.chw_lexer.specs.declared.token.Token.{Token}
use Rattle.chw_grammar.specs.declared.type_tree.KindTree.{KindTree}
use Rattle.chw_grammar.specs.declared.type_tree.KindTree.TheVariants as kinds
use Rattle.chw_grammar.specs.declared.terminal.Terminal.{Terminal}
use Rattle.chw_grammar.specs.declared.terminal.Terminal.TheVariants.{Domain, Data, Def, Top, Letrec, In, Case, Of, Forall, Vec, Semicolon, Colon, Equals, Bar, Open, Close, OpenBrace, CloseBrace, OpenBracket, CloseBracket, Comma, Dot, Lambda, TypeLambda, At, Arrow, Plus, Star, Underscore, Lower, Upper, Nat, Dom, Val, Cir, Numeral, Literal, End}
use Rattle.chw_grammar.specs.declared.word.Word.{Word}

-- a token: its sort, the place of its first byte, and its bytes
pub record Lexeme : Type 0 where
  pub sort : Sort
  pub at : ℕ
  pub bytes : List ℕ

-- a token of a text
abbrev pub lexeme_of : List ℕ → Token → Lexeme
lexeme_of text token = record { sort = token.sort; at = token.span.from; bytes = slice_range text token.span.from token.span.to }

abbrev pub lexemes_of : List ℕ → List Token → List Lexeme
lexemes_of text tokens = map (lexeme_of text) tokens

-- the keyword with these bytes
abbrev pub keyword_terminal : List ℕ → Terminal
keyword_terminal bytes =
    if bytes_eq bytes (codes "domain") then Domain else (if bytes_eq bytes (codes "data") then Data else (if bytes_eq bytes (codes "def") then Def else (if bytes_eq bytes (codes "top") then Top else (if bytes_eq bytes (codes "letrec") then Letrec else (if bytes_eq bytes (codes "in") then In else (if bytes_eq bytes (codes "case") then Case else (if bytes_eq bytes (codes "of") then Of else (if bytes_eq bytes (codes "forall") then Forall else (Vec)))))))))

-- the symbol with these bytes
abbrev pub symbol_terminal : List ℕ → Terminal
symbol_terminal bytes =
    if bytes_eq bytes (codes ";") then Semicolon else (if bytes_eq bytes (codes ":") then Colon else (if bytes_eq bytes (codes "=") then Equals else (if bytes_eq bytes (codes "|") then Bar else (if bytes_eq bytes (codes "(") then Open else (if bytes_eq bytes (codes ")") then Close else (if bytes_eq bytes (codes "{") then OpenBrace else (if bytes_eq bytes (codes "}") then CloseBrace else (if bytes_eq bytes (codes "[") then OpenBracket else (if bytes_eq bytes (codes "]") then CloseBracket else (if bytes_eq bytes (codes ",") then Comma else (if bytes_eq bytes (codes ".") then Dot else (if bytes_eq bytes (codes "\\") then Lambda else (if bytes_eq bytes (codes "/\\") then TypeLambda else (if bytes_eq bytes (codes "@") then At else (if bytes_eq bytes (codes "->") then Arrow else (if bytes_eq bytes (codes "+") then Plus else (if bytes_eq bytes (codes "*") then Star else (Underscore))))))))))))))))))

-- the terminal of a kind
abbrev pub kind_terminal : KindTree → Terminal
kind_terminal kinds.Nat = Nat
kind_terminal kinds.Dom = Dom
kind_terminal kinds.Val = Val
kind_terminal kinds.Cir = Cir

-- a kind, or another upper name
abbrev pub upper_terminal : List ℕ → Terminal
upper_terminal bytes =
    if bytes_eq bytes (codes "Nat") then Nat else (if bytes_eq bytes (codes "Dom") then Dom else (if bytes_eq bytes (codes "Val") then Val else (if bytes_eq bytes (codes "Cir") then Cir else Upper)))

-- what a token of this sort that has these bytes is to the grammar
abbrev pub terminal_of : Sort → List ℕ → Terminal
terminal_of sorts.Lower bytes = Lower
terminal_of sorts.Upper bytes = upper_terminal bytes
terminal_of sorts.Key bytes = keyword_terminal bytes
terminal_of sorts.Numeral bytes = Numeral
terminal_of sorts.Literal bytes = Literal
terminal_of sorts.Symbol bytes = symbol_terminal bytes

abbrev pub terminal : Lexeme → Terminal
terminal l = terminal_of l.sort l.bytes

-- the first terminal, or the end
abbrev pub next : List Lexeme → Terminal
next [] = End
next (l ∷ ls) = terminal l

-- a token as a word of a tree
abbrev pub word_of : Lexeme → Word
word_of l = record { at = l.at; bytes = l.bytes }
