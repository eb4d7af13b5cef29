-- The forms of tokens, as lists of bytes.
use Rattle.std.specs.Prelude.{◌≡◌, ℕ, Bool, ◌||◌, ◌==◌, IsTrue, List, [], ◌∷◌, ◌++◌, codes, ◌⊎◌}
use Rattle.std.specs.List.{list_any}
use Rattle.std.specs.Str.{bytes_eq}
use Rattle.chw_base.specs.Names.{BeginsThen, IsLower, IsUpper, is_digit, is_keyword}
use Rattle.chw_lexer.specs.declared.token.Sort.{Sort}
use Rattle.chw_lexer.specs.declared.token.Sort.TheVariants.{Lower, Upper, Key, Numeral, Literal, Symbol}

-- space, tab, line feed or carriage return
abbrev pub is_white : ℕ → Bool
is_white b = (b == 32) || ((b == 9) || ((b == 10) || (b == 13)))

-- one or more decimal digits
abbrev pub IsNumeral : List ℕ → Type 0
IsNumeral = BeginsThen is_digit is_digit

abbrev pub symbols : List (List ℕ)
symbols =
    codes ";" ∷ codes ":" ∷ codes "=" ∷ codes "|" ∷ codes "(" ∷ codes ")" ∷ codes "{" ∷ codes "}" ∷ codes "[" ∷ codes "]"
    ∷ codes "," ∷ codes "." ∷ codes "\\" ∷ codes "/\\" ∷ codes "@" ∷ codes "->" ∷ codes "+" ∷ codes "*" ∷ codes "_" ∷ []

abbrev pub is_symbol : List ℕ → Bool
is_symbol word = list_any (bytes_eq word) symbols

-- value, letter and width: the letter is `u`, `b`, or `s`, before whose value `-` may stand
abbrev pub IsLiteral : List ℕ → Type 0
IsLiteral word =
    (value : List ℕ) × (width : List ℕ) × IsNumeral value × IsNumeral width
    × ((word ≡ value ++ 117 ∷ width) ⊎ ((word ≡ value ++ 98 ∷ width) ⊎ ((word ≡ value ++ 115 ∷ width) ⊎ (word ≡ 45 ∷ (value ++ 115 ∷ width)))))

-- the word is a token of this sort
abbrev pub HasForm : Sort → List ℕ → Type 0
HasForm Lower word = IsLower word
HasForm Upper word = IsUpper word
HasForm Key word = IsTrue (is_keyword word)
HasForm Numeral word = IsNumeral word
HasForm Literal word = IsLiteral word
HasForm Symbol word = IsTrue (is_symbol word)
