-- What byte each form begins with.
use Rattle.std.proofs.Common.{◌≡◌, ℕ, ◌≤◌, Bool, true, false, not, ◌&&◌, ◌||◌, leb, eqb, List, [], ◌∷◌, ◌++◌, ◌⊎◌, inl, inr, refl, ap, ◌∙◌, subst, arith}
use Rattle.std.specs.Prelude.{IsTrue}
use Rattle.std.specs.List.{list_any, list_all}
use Rattle.std.specs.Str.{bytes_eq}
use Rattle.std.proofs.lemmas.Bool.{false≢true, and_parts, or_cases, leb-true, eqb-true}
use Rattle.std.proofs.lemmas.Slice.Eq.{bytes_eq-Decides}
use Rattle.chw_base.specs.Names.{AllOf, BeginsThen, is_small_letter, is_capital, is_digit, is_name_byte, keywords, is_keyword}
use Rattle.chw_lexer.specs.Forms.{IsNumeral, IsLiteral, symbols, is_symbol, HasForm}
use Rattle.chw_lexer.specs.Scanning.{is_letter, IsUnsigned}
use Rattle.chw_lexer.specs.declared.token.Sort.{Sort}
use Rattle.chw_lexer.specs.declared.token.Sort.TheVariants.{Lower, Upper, Key, Numeral, Literal, Symbol}

-- what holds of each word of a table holds of a word that is in it
pub of_table : (test : List ℕ → Bool) (table : List (List ℕ)) (word : List ℕ) → IsTrue (list_all test table) → IsTrue (list_any (bytes_eq word) table) → IsTrue (test word)
of_table test [] word each here = absurd (false≢true here)
of_table test (first ∷ table) word each here =
    let parts = and_parts _ _ each in
    elim (or_cases (bytes_eq word first) (list_any (bytes_eq word) table) here) [
      | inl same ↦ ap test ((bytes_eq-Decides word first).0 same) ∙ parts.0
      | inr later ↦ of_table test table word parts.1 later
    ]

pub AllOf-from_list_all : (test : ℕ → Bool) (bytes : List ℕ) → IsTrue (list_all test bytes) → AllOf test bytes
AllOf-from_list_all test [] each = tt
AllOf-from_list_all test (b ∷ bytes) each =
    let parts = and_parts _ _ each in
    (parts.0, AllOf-from_list_all test bytes parts.1)

-- a keyword is letters
abbrev looks_like_name : List ℕ → Bool
looks_like_name [] = false
looks_like_name (b ∷ bytes) = is_small_letter b && list_all is_name_byte bytes

pub keyword_begins : (word : List ℕ) → IsTrue (is_keyword word) → BeginsThen is_small_letter is_name_byte word
keyword_begins word key = from_look word (of_table looks_like_name keywords word refl key)
  where
    from_look : (word : List ℕ) → IsTrue (looks_like_name word) → BeginsThen is_small_letter is_name_byte word
    from_look [] look = absurd (false≢true look)
    from_look (b ∷ bytes) look =
        let parts = and_parts _ _ look in
        (parts.0, AllOf-from_list_all is_name_byte bytes parts.1)

-- the first bytes of symbols
abbrev pub is_mark : ℕ → Bool
is_mark b = (leb 40 b && leb b 47) || ((leb 58 b && leb b 64) || ((leb 91 b && leb b 95) || (leb 123 b && leb b 125)))

-- one byte, or `->` or `/\`
abbrev pub looks_like_symbol : List ℕ → Bool
looks_like_symbol [] = false
looks_like_symbol (b ∷ []) = is_mark b && (not (eqb b 45) && not (eqb b 47))
looks_like_symbol (b ∷ c ∷ []) = (eqb b 45 && eqb c 62) || (eqb b 47 && eqb c 92)
looks_like_symbol (b ∷ c ∷ d ∷ bytes) = false

pub symbol_looks : (word : List ℕ) → IsTrue (is_symbol word) → IsTrue (looks_like_symbol word)
symbol_looks word symbol = of_table looks_like_symbol symbols word refl symbol

-- the bytes that a form may begin with
abbrev pub First : Sort → ℕ → Type 0
First Lower b = (97 ≤ b) × (b ≤ 122)
First Upper b = (65 ≤ b) × (b ≤ 90)
First Key b = (97 ≤ b) × (b ≤ 122)
First Numeral b = (48 ≤ b) × (b ≤ 57)
First Literal b = ((48 ≤ b) × (b ≤ 57)) ⊎ (b ≡ 45)
First Symbol b = ((40 ≤ b) × (b ≤ 47)) ⊎ (((58 ≤ b) × (b ≤ 64)) ⊎ (((91 ≤ b) × (b ≤ 95)) ⊎ ((123 ≤ b) × (b ≤ 125))))

pub small_range : (b : ℕ) → IsTrue (is_small_letter b) → (97 ≤ b) × (b ≤ 122)
small_range b small = let parts = and_parts _ _ small in (leb-true _ _ parts.0, leb-true _ _ parts.1)

pub capital_range : (b : ℕ) → IsTrue (is_capital b) → (65 ≤ b) × (b ≤ 90)
capital_range b capital = let parts = and_parts _ _ capital in (leb-true _ _ parts.0, leb-true _ _ parts.1)

pub digit_range : (b : ℕ) → IsTrue (is_digit b) → (48 ≤ b) × (b ≤ 57)
digit_range b digit = let parts = and_parts _ _ digit in (leb-true _ _ parts.0, leb-true _ _ parts.1)

pub mark_range : (b : ℕ) → IsTrue (is_mark b) → First Symbol b
mark_range b mark =
    elim (or_cases (leb 40 b && leb b 47) _ mark) [
      | inl first ↦ let parts = and_parts _ _ first in inl (leb-true _ _ parts.0, leb-true _ _ parts.1)
      | inr more ↦ elim (or_cases (leb 58 b && leb b 64) _ more) [
        | inl second ↦ let parts = and_parts _ _ second in inr (inl (leb-true _ _ parts.0, leb-true _ _ parts.1))
        | inr others ↦ elim (or_cases (leb 91 b && leb b 95) _ others) [
          | inl third ↦ let parts = and_parts _ _ third in inr (inr (inl (leb-true _ _ parts.0, leb-true _ _ parts.1)))
          | inr fourth ↦ let parts = and_parts _ _ fourth in inr (inr (inr (leb-true _ _ parts.0, leb-true _ _ parts.1)))
        ]
      ]
    ]

-- the symbols of two bytes
pub two_bytes : (b c : ℕ) → IsTrue (looks_like_symbol (b ∷ c ∷ [])) → ((b ≡ 45) × (c ≡ 62)) ⊎ ((b ≡ 47) × (c ≡ 92))
two_bytes b c look =
    elim (or_cases (eqb b 45 && eqb c 62) _ look) [
      | inl arrow ↦ let parts = and_parts _ _ arrow in inl (eqb-true _ _ parts.0, eqb-true _ _ parts.1)
      | inr lambda ↦ let parts = and_parts _ _ lambda in inr (eqb-true _ _ parts.0, eqb-true _ _ parts.1)
    ]

pub symbol_first : (b : ℕ) (bytes : List ℕ) → IsTrue (looks_like_symbol (b ∷ bytes)) → First Symbol b
symbol_first b [] look = mark_range b (and_parts _ _ look).0
symbol_first b (c ∷ []) look =
    elim (two_bytes b c look) [
      | inl arrow ↦ inl (omega (arith, arrow.0), omega (arith, arrow.0))
      | inr lambda ↦ inl (omega (arith, lambda.0), omega (arith, lambda.0))
    ]
symbol_first b (c ∷ d ∷ bytes) look = absurd (false≢true look)

-- a literal has a value, a letter and a width, maybe behind a sign
pub literal_parts : (word : List ℕ) → IsLiteral word → IsUnsigned (is_letter false) word ⊎ ((rest : List ℕ) × (word ≡ 45 ∷ rest) × IsUnsigned (is_letter true) rest)
literal_parts word literal =
    let value = literal.0 in
    let width = literal.1 in
    elim literal.4 [
      | inl unsigned ↦ inl (record { value = value; letter = 117; width = width; value_is = literal.2; letter_is = refl; width_is = literal.3; word_is = unsigned })
      | inr more ↦ elim more [
        | inl bits ↦ inl (record { value = value; letter = 98; width = width; value_is = literal.2; letter_is = refl; width_is = literal.3; word_is = bits })
        | inr others ↦ elim others [
          | inl signed ↦ inl (record { value = value; letter = 115; width = width; value_is = literal.2; letter_is = refl; width_is = literal.3; word_is = signed })
          | inr negative ↦ inr (value ++ 115 ∷ width, negative, record { value = value; letter = 115; width = width; value_is = literal.2; letter_is = refl; width_is = literal.3; word_is = refl })
        ]
      ]
    ]

pub unsigned_literal : (word : List ℕ) → IsUnsigned (is_letter false) word → IsLiteral word
unsigned_literal word parts =
    let letter_is : (parts.letter ≡ 117) ⊎ ((parts.letter ≡ 98) ⊎ (parts.letter ≡ 115)) =
    elim (or_cases (eqb parts.letter 117) _ parts.letter_is) [
      | inl unsigned ↦ inl (eqb-true _ _ unsigned)
      | inr more ↦ elim (or_cases (eqb parts.letter 98) _ more) [ inl bits ↦ inr (inl (eqb-true _ _ bits)) | inr signed ↦ inr (inr (eqb-true _ _ signed)) ]
    ] in
    let spelled : (letter : ℕ) → parts.letter ≡ letter → word ≡ parts.value ++ letter ∷ parts.width =
    λ letter same. parts.word_is ∙ ap (λ l. parts.value ++ l ∷ parts.width) same in (
      parts.value,
      parts.width,
      parts.value_is,
      parts.width_is,
      elim letter_is [
        | inl unsigned ↦ inl (spelled 117 unsigned)
        | inr more ↦ elim more [ inl bits ↦ inr (inl (spelled 98 bits)) | inr signed ↦ inr (inr (inl (spelled 115 signed))) ]
      ],
    )

pub negative_literal : (rest : List ℕ) → IsUnsigned (is_letter true) rest → IsLiteral (45 ∷ rest)
negative_literal rest parts = (
  parts.value,
  parts.width,
  parts.value_is,
  parts.width_is,
  inr (inr (inr (ap (λ r. 45 ∷ r) parts.word_is ∙ ap (λ l. 45 ∷ (parts.value ++ l ∷ parts.width)) (eqb-true _ _ parts.letter_is)))),
)

-- a value begins with a digit
pub unsigned_first : (letters : ℕ → Bool) (b : ℕ) (bytes : List ℕ) → IsUnsigned letters (b ∷ bytes) → (48 ≤ b) × (b ≤ 57)
unsigned_first letters b bytes parts = first parts.value parts.value_is parts.word_is
  where
    first : (value : List ℕ) → IsNumeral value → b ∷ bytes ≡ value ++ parts.letter ∷ parts.width → (48 ≤ b) × (b ≤ 57)
    first [] numeral same = absurd numeral
    first (v ∷ value) numeral same = let head : v ≡ b = cc in digit_range b (subst (λ x. IsTrue (is_digit x)) head numeral.0)

pub unsigned_empty : (letters : ℕ → Bool) → IsUnsigned letters [] → ⊥
unsigned_empty letters parts = none parts.value parts.word_is
  where
    none : (value : List ℕ) → [] ≡ value ++ parts.letter ∷ parts.width → ⊥
    none [] same = cc
    none (v ∷ value) same = cc

-- what a form begins with
pub form_first : (sort : Sort) (b : ℕ) (bytes : List ℕ) → HasForm sort (b ∷ bytes) → First sort b
form_first Lower b bytes form = small_range b form.0.0
form_first Upper b bytes form = capital_range b form.0
form_first Key b bytes form = small_range b (keyword_begins (b ∷ bytes) form).0
form_first Numeral b bytes form = digit_range b form.0
form_first Literal b bytes form =
    elim (literal_parts (b ∷ bytes) form) [
      | inl parts ↦ inl (unsigned_first (is_letter false) b bytes parts)
      | inr negative ↦ inr (let same : b ∷ bytes ≡ 45 ∷ negative.0 = negative.1 in cc)
    ]
form_first Symbol b bytes form = symbol_first b bytes (symbol_looks (b ∷ bytes) form)

-- no form is empty
pub form_empty : (sort : Sort) → HasForm sort [] → ⊥
form_empty Lower form = form.0
form_empty Upper form = form
form_empty Key form = keyword_begins [] form
form_empty Numeral form = form
form_empty Literal form =
    elim (literal_parts [] form) [
      | inl parts ↦ unsigned_empty (is_letter false) parts
      | inr negative ↦ let same : [] ≡ 45 ∷ negative.0 = negative.1 in cc
    ]
form_empty Symbol form = false≢true (symbol_looks [] form)
