-- The forms of names and keywords, as lists of bytes.
use Rattle.std.specs.Prelude.{◌≡◌, ℕ, Bool, ◌||◌, ◌==◌, ◌&&◌, nat_le, IsTrue, false, List, [], ◌∷◌, codes}
use Rattle.std.specs.List.{list_any}
use Rattle.std.specs.Str.{bytes_eq}

abbrev pub is_small_letter : ℕ → Bool
is_small_letter b = nat_le 97 b && nat_le b 122

abbrev pub is_capital : ℕ → Bool
is_capital b = nat_le 65 b && nat_le b 90

abbrev pub is_digit : ℕ → Bool
is_digit b = nat_le 48 b && nat_le b 57

abbrev pub is_letter_or_digit : ℕ → Bool
is_letter_or_digit b = is_small_letter b || (is_capital b || is_digit b)

-- a letter, a digit or `_`
abbrev pub is_name_byte : ℕ → Bool
is_name_byte b = is_letter_or_digit b || (b == 95)

-- each byte passes the test
abbrev pub AllOf : (ℕ → Bool) → List ℕ → Type 0
AllOf test [] = Unit {0}
AllOf test (b ∷ bs) = IsTrue (test b) × AllOf test bs

-- a first byte that passes one test, and then bytes that pass another
abbrev pub BeginsThen : (ℕ → Bool) → (ℕ → Bool) → List ℕ → Type 0
BeginsThen first other [] = ⊥
BeginsThen first other (b ∷ bs) = IsTrue (first b) × AllOf other bs

abbrev pub keywords : List (List ℕ)
keywords =
    codes "domain" ∷ codes "data" ∷ codes "def" ∷ codes "top" ∷ codes "letrec" ∷ codes "in" ∷ codes "case" ∷ codes "of"
    ∷ codes "forall" ∷ codes "vec" ∷ []

abbrev pub is_keyword : List ℕ → Bool
is_keyword word = list_any (bytes_eq word) keywords

-- a capital, and then letters and digits
abbrev pub IsUpper : List ℕ → Type 0
IsUpper = BeginsThen is_capital is_letter_or_digit

-- a small letter, and then letters, digits and `_`: a keyword too
abbrev pub IsLowerWord : List ℕ → Type 0
IsLowerWord = BeginsThen is_small_letter is_name_byte

-- such a word other than a keyword
abbrev pub IsLower : List ℕ → Type 0
IsLower word = IsLowerWord word × (is_keyword word ≡ false)
