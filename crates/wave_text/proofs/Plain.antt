-- Printed words have no white bytes, and printed names and codes are read.
use Rattle.std.proofs.Common.{◌≡◌, ◌≢◌, ℕ, zero, suc, ◌+◌, ◌<◌, ◌≤◌, ◌^◌, Bool, true, false, cond, eqb, leb, ◌||◌, ◌&&◌, List, [], ◌∷◌, ◌++◌, length, map, codes, get_or, ◌⊎◌, inl, inr, refl, sym, ap, ◌∙◌, arith}
use Rattle.std.specs.Prelude.{decimal}
use Rattle.std.specs.List.{AllByRecursion}
use Rattle.std.specs.Str.Parse.{AllDigits}
use Rattle.std.proofs.lemmas.Bool.{false≢true}
use Rattle.std.proofs.lemmas.Bool.Decides.{eqb_tells, leb_tells}
use Rattle.std.proofs.lemmas.Fmt.{decimal_is_IsNumeral}
use Rattle.std.proofs.lemmas.Str.Parse.{digit_from_value}
use Rattle.chw_base.specs.Names.{AllOf, IsLowerWord, IsUpper, is_capital, is_digit, is_letter_or_digit, is_name_byte, is_small_letter}
use Rattle.chw_base.specs.declared.index.DomId.{DomId}
use Rattle.chw_clock.specs.Histories.{is_one_of}
use Rattle.chw_clock.specs.declared.event.Port.{Port}
use Rattle.verilog_text.specs.Names.{domain_name}
use Rattle.verilog_text.specs.Text.{clock_names}
use Rattle.verilog_text.specs.VForms.{begins_word}
use Rattle.verilog_text.specs.VTokens.{is_white}
use Rattle.waves.specs.Vcd.{digit_of}
use Rattle.wave_text.specs.VcdText.{IsCode, IsName, is_visible}

or_cases : (a b : Bool) → (a || b) ≡ true → (a ≡ true) ⊎ (b ≡ true)
or_cases true b is = inl refl
or_cases false b is = inr is

or_left : (a b : Bool) → a ≡ true → (a || b) ≡ true
or_left true b is = refl
or_left false b is = absurd (false≢true is)

or_right : (a b : Bool) → b ≡ true → (a || b) ≡ true
or_right true b is = refl
or_right false b is = is

and_left : (a b : Bool) → (a && b) ≡ true → a ≡ true
and_left true b is = refl
and_left false b is = is

both_true : (a b : Bool) → a ≡ true → b ≡ true → (a && b) ≡ true
both_true true b first second = second
both_true false b first second = first

at_most : (a b : ℕ) → leb a b ≡ true → a ≤ b
at_most a b is = elim (leb_tells a b) [ inl low ↦ low.1 | inr high ↦ absurd (false≢true (sym high.0 ∙ is)) ]

is_at_most : (a b : ℕ) → a ≤ b → leb a b ≡ true
is_at_most a b low = elim (leb_tells a b) [ inl is ↦ is.0 | inr high ↦ absurd (omega arith) ]

unlike : (a b : ℕ) → a ≢ b → eqb a b ≡ false
unlike a b apart = elim (eqb_tells a b) [ inl same ↦ absurd (apart same.1) | inr other ↦ other.0 ]

-- no byte from 33 on is white
no_white : (b : ℕ) → 33 ≤ b → is_white b ≡ false
no_white b high =
    ap (λ t. t || (eqb b 9 || (eqb b 10 || eqb b 13))) (unlike b 32 (λ e. absurd (omega arith)))
    ∙ ap (λ t. t || (eqb b 10 || eqb b 13)) (unlike b 9 (λ e. absurd (omega arith)))
    ∙ ap (λ t. t || eqb b 13) (unlike b 10 (λ e. absurd (omega arith)))
    ∙ unlike b 13 (λ e. absurd (omega arith))

abbrev pub Plain : List ℕ → Type 0
Plain bytes = AllByRecursion (λ b. is_white b ≡ false) bytes

pub plain_append : (xs ys : List ℕ) → Plain xs → Plain ys → Plain (xs ++ ys)
plain_append [] ys first second = second
plain_append (x ∷ xs) ys first second = (first.0, plain_append xs ys first.1 second)

abbrev pub AreVisible : List ℕ → Type 0
AreVisible bytes = AllByRecursion (λ b. (33 ≤ b) × (b ≤ 126)) bytes

pub visible_plain : (bytes : List ℕ) → AreVisible bytes → Plain bytes
visible_plain [] all = tt
visible_plain (b ∷ bytes) all = (no_white b all.0.0, visible_plain bytes all.1)

visible_bytes : (bytes : List ℕ) → AreVisible bytes → AllOf is_visible bytes
visible_bytes [] all = tt
visible_bytes (b ∷ bytes) all = (both_true (leb 33 b) (leb b 126) (is_at_most 33 b all.0.0) (is_at_most b 126 all.0.1), visible_bytes bytes all.1)

pub visible_code : (bytes : List ℕ) → 0 < length bytes → AreVisible bytes → IsCode bytes
visible_code [] some all = absurd (omega arith)
visible_code (b ∷ bytes) some all = visible_bytes (b ∷ bytes) all

digits_plain : (digits : List ℕ) → AllDigits 10 digits → Plain digits
digits_plain [] all = tt
digits_plain (c ∷ digits) all =
    let range = digit_from_value c all.0 in
    (no_white c (omega (arith, range.0)), digits_plain digits all.1)

pub decimal_plain : (n : ℕ) → n < 2 ^ 64 → Plain (decimal n)
decimal_plain n low = digits_plain (decimal n) (decimal_is_IsNumeral n low).0.1

pub bits_plain : (bits : List Bool) → Plain (map digit_of bits)
bits_plain [] = tt
bits_plain (true ∷ bits) = (refl, bits_plain bits)
bits_plain (false ∷ bits) = (refl, bits_plain bits)

letters_high : (b : ℕ) → is_letter_or_digit b ≡ true → 33 ≤ b
letters_high b is =
    elim (or_cases (is_small_letter b) (is_capital b || is_digit b) is) [
      | inl small ↦ let low = at_most 97 b (and_left (leb 97 b) (leb b 122) small) in omega arith
      | inr other ↦ elim (or_cases (is_capital b) (is_digit b) other) [
        | inl capital ↦ let low = at_most 65 b (and_left (leb 65 b) (leb b 90) capital) in omega arith
        | inr digit ↦ let low = at_most 48 b (and_left (leb 48 b) (leb b 57) digit) in omega arith
      ]
    ]

name_high : (b : ℕ) → is_name_byte b ≡ true → 33 ≤ b
name_high b is =
    elim (or_cases (is_letter_or_digit b) (eqb b 95) is) [
      | inl letter ↦ letters_high b letter
      | inr mark ↦ elim (eqb_tells b 95) [ inl same ↦ let e = same.1 in omega arith | inr apart ↦ absurd (false≢true (sym apart.0 ∙ mark)) ]
    ]

pub names_plain : (bytes : List ℕ) → AllOf is_name_byte bytes → Plain bytes
names_plain [] all = tt
names_plain (b ∷ bytes) all = (no_white b (name_high b all.0), names_plain bytes all.1)

word_bytes : (bytes : List ℕ) → AllOf is_letter_or_digit bytes → AllOf is_name_byte bytes
word_bytes [] all = tt
word_bytes (b ∷ bytes) all = (or_left (is_letter_or_digit b) (eqb b 95) all.0, word_bytes bytes all.1)

upper_bytes : (bytes : List ℕ) → IsUpper bytes → AllOf is_name_byte bytes
upper_bytes [] upper = absurd upper
upper_bytes (b ∷ bytes) upper = (
  or_left (is_letter_or_digit b) (eqb b 95) (or_right (is_small_letter b) (is_capital b || is_digit b) (or_left (is_capital b) (is_digit b) upper.0)),
  word_bytes bytes upper.1,
)

lower_bytes : (bytes : List ℕ) → IsLowerWord bytes → AllOf is_name_byte bytes
lower_bytes [] lower = absurd lower
lower_bytes (b ∷ bytes) lower =
    (or_left (is_letter_or_digit b) (eqb b 95) (or_left (is_small_letter b) (is_capital b || is_digit b) lower.0), lower.1)

all_of_append : (xs ys : List ℕ) → AllOf is_name_byte xs → AllOf is_name_byte ys → AllOf is_name_byte (xs ++ ys)
all_of_append [] ys first second = second
all_of_append (x ∷ xs) ys first second = (first.0, all_of_append xs ys first.1 second)

-- a name that is read has no white bytes, and a first byte
pub name_plain : (bytes : List ℕ) → IsName bytes → (0 < length bytes) × Plain bytes
name_plain [] is = absurd is
name_plain (b ∷ bytes) is = (omega arith, (no_white b (first_high is.0), names_plain bytes is.1))
  where
    first_high : begins_word b ≡ true → 33 ≤ b
    first_high begins =
        elim (or_cases (is_small_letter b) (is_capital b || eqb b 95) begins) [
          | inl small ↦ letters_high b (or_left (is_small_letter b) (is_capital b || is_digit b) small)
          | inr other ↦ elim (or_cases (is_capital b) (eqb b 95) other) [
            | inl capital ↦ letters_high b (or_right (is_small_letter b) (is_capital b || is_digit b) (or_left (is_capital b) (is_digit b) capital))
            | inr mark ↦ name_high b (or_right (is_letter_or_digit b) (eqb b 95) mark)
          ]
        ]

-- the names of clocks and resets
pub clock_words : (resets : List DomId) (k : ℕ) (domains : List (List ℕ)) → AllByRecursion IsUpper domains → AllByRecursion IsName (clock_names resets k domains)
clock_words resets k [] uppers = tt
clock_words resets k (domain ∷ domains) uppers =
    let bytes = upper_bytes domain uppers.0 in
    ((refl, (refl, (refl, (refl, bytes)))), at (is_one_of resets (record { number = k })) (clock_words resets (k + 1) domains uppers.1))
  where
    at : (has : Bool) → AllByRecursion IsName (clock_names resets (k + 1) domains) → AllByRecursion IsName (cond has ((codes "rst_" ++ domain) ∷ []) [] ++ clock_names resets (k + 1) domains)
    at true later = ((refl, (refl, (refl, (refl, upper_bytes domain uppers.0)))), later)
    at false later = later

domain_bytes : (domains : List (List ℕ)) (n : ℕ) → AllByRecursion IsUpper domains → AllOf is_name_byte (get_or domains n [])
domain_bytes [] n uppers = tt
domain_bytes (domain ∷ domains) zero uppers = upper_bytes domain uppers.0
domain_bytes (domain ∷ domains) (suc n) uppers = domain_bytes domains n uppers.1

-- the names of inputs and outputs
pub port_name : (first : ℕ) (domains : List (List ℕ)) (port : Port) → begins_word first ≡ true → is_name_byte 95 ≡ true → AllByRecursion IsUpper domains → IsLowerWord port.name
    → IsName ((((first ∷ 95 ∷ []) ++ domain_name domains port.dom) ++ codes "_") ++ port.name)
port_name first domains port begins mark uppers lower = (
  begins,
  (
    mark,
    all_of_append (domain_name domains port.dom ++ codes "_") port.name
        (all_of_append (domain_name domains port.dom) (codes "_") (domain_bytes domains port.dom.number uppers) (mark, tt)) (lower_bytes port.name lower),
  ),
)
