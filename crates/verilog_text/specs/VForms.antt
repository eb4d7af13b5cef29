-- The tokens of a Verilog text: their sorts, and the forms of their bytes.
use Rattle.std.specs.Prelude.{◌≡◌, ℕ, Bool, ◌||◌, ◌==◌, ◌&&◌, nat_le, IsTrue, false}
use Rattle.std.specs.Prelude.{List, [], ◌∷◌, ◌++◌, codes}
use Rattle.std.specs.List.{list_any}
use Rattle.std.specs.Str.{bytes_eq}
use Rattle.chw_base.specs.Names.{BeginsThen, is_capital, is_digit, is_name_byte, is_small_letter}

-- what a token may be
pub data Sort : Type 0 where
  keyword : Sort
  -- a word that is no keyword
  name : Sort
  -- a decimal number
  number : Sort
  -- a number of bits, and hexadecimal digits
  literal : Sort
  -- the word `$signed`
  signed : Sort
  sign : Sort

-- a token, wherever it stands
pub record Token : Type 0 where
  pub sort : Sort
  pub bytes : List ℕ

-- a letter or `_`
abbrev pub begins_word : ℕ → Bool
begins_word b = is_small_letter b || (is_capital b || (b == 95))

-- a letter or `_`, and then letters, digits and `_`
abbrev pub IsWord : List ℕ → Type 0
IsWord = BeginsThen begins_word is_name_byte

abbrev pub keywords : List (List ℕ)
keywords =
    codes "module" ∷ codes "endmodule" ∷ codes "input" ∷ codes "output" ∷ codes "wire"
    ∷ codes "reg" ∷ codes "assign" ∷ codes "always" ∷ codes "posedge" ∷ codes "initial"
    ∷ codes "begin" ∷ codes "end" ∷ codes "if" ∷ []

abbrev pub is_keyword : List ℕ → Bool
is_keyword word = list_any (bytes_eq word) keywords

-- one or more decimal digits
abbrev pub IsNumber : List ℕ → Type 0
IsNumber = BeginsThen is_digit is_digit

abbrev pub is_hex_digit : ℕ → Bool
is_hex_digit b = is_digit b || ((nat_le 97 b && nat_le b 102) || (nat_le 65 b && nat_le b 70))

-- one or more hexadecimal digits
abbrev pub AreHexDigits : List ℕ → Type 0
AreHexDigits = BeginsThen is_hex_digit is_hex_digit

-- a literal of these parts: a decimal size, `'h`, and hexadecimal digits
pub record HasParts (bytes size digits : List ℕ) : Type 0 where
  pub size_is : IsNumber size
  pub digits_are : AreHexDigits digits
  pub bytes_are : bytes ≡ size ++ (codes "'h" ++ digits)

-- a literal of some parts
abbrev pub IsLiteral : List ℕ → Type 0
IsLiteral bytes = (size : List ℕ) × (digits : List ℕ) × HasParts bytes size digits

abbrev pub signs : List (List ℕ)
signs =
    codes "(" ∷ codes ")" ∷ codes "[" ∷ codes "]" ∷ codes "{" ∷ codes "}" ∷ codes "," ∷ codes ";"
    ∷ codes "." ∷ codes ":" ∷ codes "?" ∷ codes "@" ∷ codes "=" ∷ codes "+" ∷ codes "-"
    ∷ codes "*" ∷ codes "&" ∷ codes "|" ∷ codes "^" ∷ codes "~" ∷ codes "==" ∷ codes "<"
    ∷ codes "<=" ∷ codes "<<" ∷ codes ">>" ∷ codes ">>>" ∷ []

abbrev pub is_sign : List ℕ → Bool
is_sign bytes = list_any (bytes_eq bytes) signs

-- the bytes are a token of this sort
abbrev pub HasForm : Sort → List ℕ → Type 0
HasForm keyword bytes = IsTrue (is_keyword bytes)
HasForm name bytes = IsWord bytes × (is_keyword bytes ≡ false)
HasForm number bytes = IsNumber bytes
HasForm literal bytes = IsLiteral bytes
HasForm signed bytes = bytes ≡ codes "$signed"
HasForm sign bytes = IsTrue (is_sign bytes)
