-- Numerals and literals as longest tokens.
use Rattle.std.proofs.Common.{◌≡◌, ℕ, suc, zero, ◌+◌, ◌<◌, ◌≤◌, Bool, true, false, ◌⊎◌, inl, inr, eqb, List, [], ◌∷◌, ◌++◌, length, take, drop, sym, refl, ap, ◌∙◌, subst, append_assoc, add-one, get_or, ◌-◌, arith}
use Rattle.std.specs.Prelude.{IsTrue}
use Rattle.std.proofs.lemmas.Bool.{false≢true, or_cases, eqb-true}
use Rattle.std.proofs.lemmas.List.{take-append-drop, take_at, take_rest, length-append, length-take-le}
use Rattle.chw_base.specs.Names.{AllOf, is_digit}
use Rattle.chw_lexer.specs.Forms.{IsNumeral, HasForm}
use Rattle.chw_lexer.specs.Scanning.{BeginsWith, IsRun, is_letter, IsUnsigned, IsLongestUnsigned, BeginsNoUnsigned, IsTokenAt, begins_with}
use Rattle.chw_lexer.specs.declared.token.Sort.{Sort}
use Rattle.chw_lexer.specs.declared.token.Sort.TheVariants.{Lower, Upper, Key, Numeral, Literal, Symbol}
use Rattle.chw_lexer.proofs.Firsts.{First, form_first, form_empty, digit_range, literal_parts, unsigned_literal}
use Rattle.chw_lexer.proofs.Runs.{within_run, same_run}
use Rattle.chw_lexer.proofs.Names.{begins_run}

pub numeral_digits : (value : List ℕ) → IsNumeral value → AllOf is_digit value
numeral_digits [] numeral = tt
numeral_digits (v ∷ value) numeral = numeral

pub numeral_length : (value : List ℕ) → IsNumeral value → 0 < length value
numeral_length [] numeral = absurd numeral
numeral_length (v ∷ value) numeral = omega arith

digits_numeral : (value : List ℕ) → AllOf is_digit value → 0 < length value → IsNumeral value
digits_numeral [] digits some = absurd (omega arith)
digits_numeral (v ∷ value) digits some = digits

-- a letter is no digit
pub letter_no_digit : (signed : Bool) (b : ℕ) → IsTrue (is_letter signed b) → is_digit b ≡ false
letter_no_digit true b letter = ap is_digit (eqb-true _ _ letter)
letter_no_digit false b letter =
    elim (or_cases (eqb b 117) _ letter) [
      | inl unsigned ↦ ap is_digit (eqb-true _ _ unsigned)
      | inr more ↦ elim (or_cases (eqb b 98) _ more) [
        | inl bits ↦ ap is_digit (eqb-true _ _ bits)
        | inr others ↦ ap is_digit (eqb-true _ _ others)
      ]
    ]

module _ (signed : Bool) (bytes : List ℕ) (n : ℕ) (run : IsRun is_digit bytes n) where
  -- the value is the run of digits, and the letter and the width stand behind it
  pub unsigned_split : (word more : List ℕ) → word ++ more ≡ bytes → (parts : IsUnsigned (is_letter signed) word) → (parts.value ≡ take n bytes) × (parts.letter ∷ (parts.width ++ more) ≡ drop n bytes)
  unsigned_split word more same parts =
      let regroup : parts.value ++ (parts.letter ∷ (parts.width ++ more)) ≡ take n bytes ++ drop n bytes =
      sym (append_assoc parts.value (parts.letter ∷ parts.width) more) ∙ ap (λ w. w ++ more) (sym parts.word_is) ∙ same ∙ sym (take-append-drop n bytes) in
      same_run is_digit (take n bytes) (drop n bytes) parts.value (parts.letter ∷ (parts.width ++ more)) run.passes run.stops (numeral_digits parts.value parts.value_is) (letter_no_digit signed parts.letter parts.letter_is) regroup

  pub no_value : n ≡ 0 → BeginsNoUnsigned (is_letter signed) bytes
  no_value none word more same parts =
      let split = unsigned_split word more same parts in
      let some = numeral_length parts.value parts.value_is in
      let front : length (take n bytes) ≡ n = length-take-le n bytes run.within in
      omega (arith, ap length split.0)

  pub no_letter : begins_with (is_letter signed) (drop n bytes) ≡ false → BeginsNoUnsigned (is_letter signed) bytes
  no_letter none word more same parts =
      let split = unsigned_split word more same parts in
      false≢true (sym none ∙ ap (begins_with (is_letter signed)) (sym split.1) ∙ parts.letter_is)

  pub width_split : (letter : ℕ) (width : List ℕ) → drop n bytes ≡ letter ∷ width → (word more : List ℕ) → word ++ more ≡ bytes → (parts : IsUnsigned (is_letter signed) word) → parts.width ++ more ≡ width
  width_split letter width rest word more same parts =
      let split = (unsigned_split word more same parts).1 ∙ rest in cc

  module _ (letter : ℕ) (width : List ℕ) (rest : drop n bytes ≡ letter ∷ width) (m : ℕ) (digits : IsRun is_digit width m) where
    width_within : (word more : List ℕ) → word ++ more ≡ bytes → (parts : IsUnsigned (is_letter signed) word) → length parts.width ≤ m
    width_within word more same parts =
        let shorter : length parts.width ≤ length (take m width) =
        within_run is_digit (take m width) (drop m width) parts.width more digits.passes digits.stops (numeral_digits parts.width parts.width_is) (width_split letter width rest word more same parts ∙ sym (take-append-drop m width)) in
        let front : length (take m width) ≡ m = length-take-le m width digits.within in
        omega arith

    pub no_width : m ≡ 0 → BeginsNoUnsigned (is_letter signed) bytes
    no_width none word more same parts =
        let shorter = width_within word more same parts in
        let some = numeral_length parts.width parts.width_is in
        omega arith

    -- value, letter and width
    pub whole : IsTrue (is_letter signed letter) → 0 < n → 0 < m → IsLongestUnsigned (is_letter signed) bytes (n + 1 + m)
    whole letter_is some_value some_width =
        let front_length : length (take n bytes) ≡ n = length-take-le n bytes run.within in
        let width_length : length (take m width) ≡ m = length-take-le m width digits.within in
        let word : List ℕ = take n bytes ++ letter ∷ take m width in
        let word_length : length word ≡ n + 1 + m = length-append (take n bytes) (letter ∷ take m width) ∙ omega arith in
        let bytes_are : bytes ≡ word ++ drop m width =
        sym (take-append-drop n bytes) ∙ ap (λ r. take n bytes ++ r) (rest ∙ ap (λ r. letter ∷ r) (sym (take-append-drop m width))) ∙ sym (append_assoc (take n bytes) (letter ∷ take m width) (drop m width)) in
        record {
          within = omega (arith, ap length bytes_are ∙ length-append word (drop m width));
          form = record {
            value = take n bytes;
            letter = letter;
            width = take m width;
            value_is = digits_numeral (take n bytes) run.passes (omega arith);
            letter_is = letter_is;
            width_is = digits_numeral (take m width) digits.passes (omega arith);
            word_is = ap (take (n + 1 + m)) bytes_are ∙ take_at word (drop m width) (n + 1 + m) word_length;
          };
          longest = λ other more same parts.
              let value_is : length parts.value ≡ n = ap length (unsigned_split other more same parts).0 ∙ front_length in
              let shorter = width_within other more same parts in
              omega (arith, ap length parts.word_is ∙ length-append parts.value (parts.letter ∷ parts.width));
        }

-- what begins with a digit is a numeral or a literal
number_form : (sort : Sort) (b : ℕ) (bytes : List ℕ) → (48 ≤ b) × (b ≤ 57) → First sort b → HasForm sort (b ∷ bytes) → IsNumeral (b ∷ bytes) ⊎ IsUnsigned (is_letter false) (b ∷ bytes)
number_form Lower b bytes digit first form = absurd (omega arith)
number_form Upper b bytes digit first form = absurd (omega arith)
number_form Key b bytes digit first form = absurd (omega arith)
number_form Numeral b bytes digit first form = inl form
number_form Literal b bytes digit first form =
    elim (literal_parts (b ∷ bytes) form) [
      | inl parts ↦ inr parts
      | inr negative ↦ let same : b ∷ bytes ≡ 45 ∷ negative.0 = negative.1 in let head : b ≡ 45 = cc in absurd (omega arith)
    ]
number_form Symbol b bytes digit first form = absurd (omega arith)

pub number_word : (bytes : List ℕ) → BeginsWith is_digit bytes → (sort : Sort) (word more : List ℕ) → word ++ more ≡ bytes → HasForm sort word → IsNumeral word ⊎ IsUnsigned (is_letter false) word
number_word bytes begins sort [] more same form = absurd (form_empty sort form)
number_word [] begins sort (w ∷ word) more same form = absurd begins
number_word (b ∷ bytes) begins sort (w ∷ word) more same form =
    let head : w ≡ b = cc in
    number_form sort w word (subst (λ x. (48 ≤ x) × (x ≤ 57)) (sym head) (digit_range b begins)) (form_first sort w word form) form

-- a numeral before a literal is no longer than its value
numeral_within : (bytes : List ℕ) (n : ℕ) (literal : IsLongestUnsigned (is_letter false) bytes n) (word more : List ℕ) → word ++ more ≡ bytes → IsNumeral word → length word ≤ n
numeral_within bytes n literal word more same numeral =
    let parts = literal.form in
    let regroup : word ++ more ≡ parts.value ++ (parts.letter ∷ (parts.width ++ drop n bytes)) =
    same ∙ sym (take-append-drop n bytes) ∙ ap (λ w. w ++ drop n bytes) parts.word_is ∙ append_assoc parts.value (parts.letter ∷ parts.width) (drop n bytes) in
    let shorter : length word ≤ length parts.value =
    within_run is_digit parts.value (parts.letter ∷ (parts.width ++ drop n bytes)) word more (numeral_digits parts.value parts.value_is) (letter_no_digit false parts.letter parts.letter_is) (numeral_digits word numeral) regroup in
    omega (arith, length-take-le n bytes literal.within, ap length parts.word_is ∙ length-append parts.value (parts.letter ∷ parts.width))

pub literal_token : (bytes : List ℕ) (n : ℕ) → BeginsWith is_digit bytes → IsLongestUnsigned (is_letter false) bytes n → IsTokenAt bytes Literal n
literal_token bytes n begins literal = record {
  within = literal.within;
  longest = record {
    form = unsigned_literal (take n bytes) literal.form;
    longest = λ other word more same form.
        let whole : word ++ more ≡ bytes = same ∙ take-append-drop n bytes in
        let front : length (take n bytes) ≡ n = length-take-le n bytes literal.within in
        elim (number_word bytes begins other word more whole form) [
          | inl numeral ↦ let shorter = numeral_within bytes n literal word more whole numeral in omega arith
          | inr parts ↦ let shorter = literal.longest word more whole parts in omega arith
        ];
  };
}

pub numeral_token : (bytes : List ℕ) (n : ℕ) → BeginsWith is_digit bytes → BeginsNoUnsigned (is_letter false) bytes → IsRun is_digit bytes n → IsTokenAt bytes Numeral n
numeral_token bytes n begins none run = record {
  within = run.within;
  longest = record {
    form = begins_run is_digit is_digit bytes n (λ b digit. digit) begins run;
    longest = λ other word more same form.
        let whole : word ++ more ≡ bytes = same ∙ take-append-drop n bytes in
        elim (number_word bytes begins other word more whole form) [
          | inl numeral ↦ within_run is_digit (take n bytes) (drop n bytes) word more run.passes run.stops (numeral_digits word numeral) same
          | inr parts ↦ absurd (none word more whole parts)
        ];
  };
}

begins_drop : (test : ℕ → Bool) (bytes : List ℕ) (n : ℕ) → begins_with test (drop n bytes) ≡ true → (drop n bytes ≡ get_or bytes n 0 ∷ drop (suc n) bytes) × IsTrue (test (get_or bytes n 0))
begins_drop test [] zero begins = absurd (false≢true begins)
begins_drop test [] (suc n) begins = absurd (false≢true begins)
begins_drop test (b ∷ bytes) zero begins = (refl, begins)
begins_drop test (b ∷ bytes) (suc n) begins = begins_drop test bytes n begins

-- the same for parts of a slice
abbrev pub from_on : List ℕ → ℕ → List ℕ
from_on bytes n = take (length bytes - n) (drop n bytes)

module _ (signed : Bool) (bytes : List ℕ) (n : ℕ) (run : IsRun is_digit bytes n) where
  pub no_letter_from : begins_with (is_letter signed) (from_on bytes n) ≡ false → BeginsNoUnsigned (is_letter signed) bytes
  no_letter_from none = no_letter signed bytes n run (ap (begins_with (is_letter signed)) (sym (take_rest bytes n)) ∙ none)

  module _ (begins : begins_with (is_letter signed) (from_on bytes n) ≡ true) (m : ℕ) (digits : IsRun is_digit (from_on bytes (n + 1)) m) where
    letter_here : (drop n bytes ≡ get_or bytes n 0 ∷ drop (suc n) bytes) × IsTrue (is_letter signed (get_or bytes n 0))
    letter_here = begins_drop (is_letter signed) bytes n (ap (begins_with (is_letter signed)) (sym (take_rest bytes n)) ∙ begins)

    digits_here : IsRun is_digit (drop (suc n) bytes) m
    digits_here =
        let same : from_on bytes (n + 1) ≡ drop (suc n) bytes = take_rest bytes (n + 1) ∙ ap (λ i. drop i bytes) (add-one n) in
        subst (λ width. IsRun is_digit width m) same digits

    pub no_width_from : m ≡ 0 → BeginsNoUnsigned (is_letter signed) bytes
    no_width_from = no_width signed bytes n run (get_or bytes n 0) (drop (suc n) bytes) letter_here.0 m digits_here

    pub whole_from : (n ≡ 0 → ⊥) → (m ≡ 0 → ⊥) → IsLongestUnsigned (is_letter signed) bytes (n + 1 + m)
    whole_from some_value some_width =
        whole signed bytes n run (get_or bytes n 0) (drop (suc n) bytes) letter_here.0 m digits_here letter_here.1 (omega arith) (omega arith)
