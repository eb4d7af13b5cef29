-- The words of the description have the forms of their sorts.
use Rattle.std.specs.Prelude.{◌≡◌, ℕ, ◌<◌, ◌^◌, Bool, true, false, not, ◌&&◌, IsTrue, List, [], ◌∷◌, ◌++◌, length, codes, decimal, refl}
use Rattle.std.specs.Char.{digit_value}
use Rattle.std.specs.List.{list_all}
use Rattle.std.specs.Str.Parse.{AllDigits}
use Rattle.std.proofs.Common.{leb, eqb, inl, arith}
use Rattle.std.proofs.lemmas.Bool.{and_from, and_parts, false≢true, le-leb, leb-true, ne_eqb, or_left, or_right}
use Rattle.std.proofs.lemmas.Fmt.{decimal_is_IsNumeral}
use Rattle.std.proofs.lemmas.Str.Parse.{digit_from_value}
use Rattle.chw_base.specs.Names.{AllOf, is_capital, is_digit, is_keyword, is_letter_or_digit, is_name_byte, is_small_letter}
use Rattle.chw_lexer.specs.Forms.{HasForm, IsNumeral}
use Rattle.chw_lexer.specs.declared.token.Sort.TheVariants as sort
use Rattle.make_text.specs.MakeTree.{product_name, tap_name}

all_of : (test : ℕ → Bool) (bytes : List ℕ) → IsTrue (list_all test bytes) → AllOf test bytes
all_of test [] each = tt
all_of test (b ∷ bytes) each = let parts = and_parts _ _ each in (parts.0, all_of test bytes parts.1)

all_wider : (test other : ℕ → Bool) → ((b : ℕ) → IsTrue (test b) → IsTrue (other b)) → (bytes : List ℕ) → AllOf test bytes → AllOf other bytes
all_wider test other wider [] each = tt
all_wider test other wider (b ∷ bytes) each = (wider b each.0, all_wider test other wider bytes each.1)

not_true : (b : Bool) → IsTrue (not b) → b ≡ false
not_true true is = absurd (false≢true is)
not_true false is = refl

-- whether the word is a lower name, or an upper one
abbrev is_lower_word : List ℕ → Bool
is_lower_word [] = false
is_lower_word (b ∷ bytes) = is_small_letter b && (list_all is_name_byte bytes && not (is_keyword (b ∷ bytes)))

abbrev is_upper_word : List ℕ → Bool
is_upper_word [] = false
is_upper_word (b ∷ bytes) = is_capital b && list_all is_letter_or_digit bytes

pub lower : (bytes : List ℕ) → IsTrue (is_lower_word bytes) → HasForm sort.Lower bytes
lower [] is = absurd (false≢true is)
lower (b ∷ bytes) is =
    let parts = and_parts _ _ is in
    let later = and_parts _ _ parts.1 in
    ((parts.0, all_of is_name_byte bytes later.0), not_true _ later.1)

pub upper : (bytes : List ℕ) → IsTrue (is_upper_word bytes) → HasForm sort.Upper bytes
upper [] is = absurd (false≢true is)
upper (b ∷ bytes) is =
    let parts = and_parts _ _ is in (parts.0, all_of is_letter_or_digit bytes parts.1)

digit : (b : ℕ) → digit_value b < 10 → IsTrue (is_digit b)
digit b small =
    let inside = digit_from_value b small in
    and_from (leb 48 b) (leb b 57) (le-leb 48 b (omega arith)) (le-leb b 57 (omega arith))

digits : (bytes : List ℕ) → AllDigits 10 bytes → AllOf is_digit bytes
digits [] each = tt
digits (b ∷ bytes) each = (digit b each.0, digits bytes each.1)

digits_numeral : (bytes : List ℕ) → 0 < length bytes → AllDigits 10 bytes → IsNumeral bytes
digits_numeral [] some each = absurd (omega arith)
digits_numeral (b ∷ bytes) some each = (digit b each.0, digits bytes each.1)

pub decimal_numeral : (n : ℕ) → n < 2 ^ 64 → IsNumeral (decimal n)
decimal_numeral n small =
    let numeral = decimal_is_IsNumeral n small in digits_numeral (decimal n) numeral.0.0 numeral.0.1

-- a number with the width of a word
pub word_literal : (n : ℕ) → n < 2 ^ 64 → HasForm sort.Literal (decimal n ++ codes "u16")
word_literal n small = (decimal n, codes "16", decimal_numeral n small, (refl, (refl, tt)), inl refl)

pub zero_literal : HasForm sort.Literal (codes "0u16")
zero_literal = (codes "0", codes "16", (refl, tt), (refl, (refl, tt)), inl refl)

name_byte : (b : ℕ) → IsTrue (is_digit b) → IsTrue (is_name_byte b)
name_byte b is = or_left (is_letter_or_digit b) (eqb b 95) (or_right (is_small_letter b) _ (or_right (is_capital b) (is_digit b) is))

name_bytes : (bytes : List ℕ) → IsNumeral bytes → AllOf is_name_byte bytes
name_bytes [] numeral = absurd numeral
name_bytes (b ∷ bytes) numeral = (name_byte b numeral.0, all_wider is_digit is_name_byte name_byte bytes numeral.1)

-- `t` and digits are no keyword: that which begins with `t` is `top`
no_keyword : (bytes : List ℕ) → IsNumeral bytes → is_keyword (116 ∷ bytes) ≡ false
no_keyword [] numeral = absurd numeral
no_keyword (b ∷ bytes) numeral =
    let parts : IsTrue (leb 48 b) × IsTrue (leb b 57) = and_parts _ _ numeral.0 in
    let no_o : eqb b 111 ≡ false = ne_eqb b 111 (omega (arith, leb-true b 57 parts.1)) in
    rw no_o refl

pub tap_lower : (k : ℕ) → k < 2 ^ 64 → HasForm sort.Lower (tap_name k)
tap_lower k small =
    let numeral = decimal_numeral k small in ((refl, name_bytes (decimal k) numeral), no_keyword (decimal k) numeral)

pub product_lower : (k : ℕ) → k < 2 ^ 64 → HasForm sort.Lower (product_name k)
product_lower k small = ((refl, name_bytes (decimal k) (decimal_numeral k small)), refl)
