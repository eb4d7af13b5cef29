-- Numbers and literals as longest tokens.
use Rattle.std.proofs.Common.{◌≡◌, ℕ, ◌+◌, ◌≤◌, ◌⊎◌, inl, inr, List, [], ◌∷◌, ◌++◌, length, take, drop, sym, refl, ap, ◌∙◌, subst, append_assoc, arith}
use Rattle.std.proofs.lemmas.List.{take-append-drop, take_at, length-append, length-take-le}
use Rattle.chw_base.specs.Names.{is_digit}
use Rattle.verilog_text.specs.Grammar.{literal, number}
use Rattle.verilog_text.specs.VForms.{HasForm, HasParts, IsLiteral, IsNumber, Sort, is_hex_digit}
use Rattle.verilog_text.specs.VForms.Sort.{keyword as a_keyword, literal as a_literal, name as a_name, number as a_number, sign as a_sign, signed as a_signed}
use Rattle.verilog_text.proofs.Firsts.{First, digit_range, form_empty, form_first, number_digits}
use Rattle.verilog_text.proofs.Runs.{same_run}
use Rattle.verilog_lex.specs.Scanning.{BeginsWith, HasNoTail, IsRun, IsTail, IsTokenAt}
use Rattle.verilog_lex.proofs.Longest.{AreWithin, longest_token}
use Rattle.verilog_lex.proofs.Runs.{all_begun, begins_run, begins_then, stops_before, within_run_of}

-- what begins with a digit is a number or a literal
number_form : (sort : Sort) (b : ℕ) (bytes : List ℕ) → (48 ≤ b) × (b ≤ 57) → First sort b → HasForm sort (b ∷ bytes) → IsNumber (b ∷ bytes) ⊎ IsLiteral (b ∷ bytes)
number_form a_keyword b bytes digit first form = absurd (omega arith)
number_form a_name b bytes digit first form = absurd (omega arith)
number_form a_number b bytes digit first form = inl form
number_form a_literal b bytes digit first form = inr form
number_form a_signed b bytes digit first form = absurd (omega arith)
number_form a_sign b bytes digit first form = absurd (omega arith)

number_word : (bytes : List ℕ) → BeginsWith is_digit bytes → (sort : Sort) (word more : List ℕ) → word ++ more ≡ bytes → HasForm sort word → IsNumber word ⊎ IsLiteral word
number_word bytes begins sort [] more same form = absurd (form_empty sort form)
number_word [] begins sort (w ∷ word) more same form = absurd begins
number_word (b ∷ bytes) begins sort (w ∷ word) more same form =
    let head : w ≡ b = cc in
    number_form sort w word (subst (λ x. (48 ≤ x) × (x ≤ 57)) (sym head) (digit_range b begins)) (form_first sort w word form) form

module _ (bytes : List ℕ) (n : ℕ) (run : IsRun is_digit bytes n) where
  -- the size of a literal is the run of digits, and its other parts stand behind it
  pub literal_split : (word more : List ℕ) → word ++ more ≡ bytes → (size digits : List ℕ) → HasParts word size digits → (size ≡ take n bytes) × (39 ∷ 104 ∷ (digits ++ more) ≡ drop n bytes)
  literal_split word more same size digits parts =
      let regroup : size ++ (39 ∷ 104 ∷ (digits ++ more)) ≡ take n bytes ++ drop n bytes =
      sym (append_assoc size (39 ∷ 104 ∷ digits) more) ∙ ap (λ w. w ++ more) (sym parts.bytes_are) ∙ same ∙ sym (take-append-drop n bytes) in
      same_run is_digit (take n bytes) (drop n bytes) size (39 ∷ 104 ∷ (digits ++ more)) run.passes (stops_before is_digit (drop n bytes) run.stops) (number_digits size parts.size_is) refl regroup

module _ (bytes : List ℕ) (n : ℕ) (begins : BeginsWith is_digit bytes) (run : IsRun is_digit bytes n) where
  number_within : (word more : List ℕ) → word ++ more ≡ bytes → IsNumber word → length word ≤ n
  number_within word more same form = within_run_of is_digit bytes n run word more same (number_digits word form)

  pub number_token : HasNoTail (drop n bytes) → IsTokenAt bytes (number (take n bytes)) n
  number_token no_tail =
      longest_token bytes n (number (take n bytes)) run.within refl (begins_run is_digit is_digit bytes n (λ b digit. digit) begins run) within
    where
      within : AreWithin bytes n
      within other word more same form =
          elim (number_word bytes begins other word more same form) [
            | inl digits ↦ number_within word more same digits
            | inr text ↦
                let parts : HasParts word text.0 text.1 = text.2 in
                absurd (no_tail text.1 more parts.digits_are (literal_split bytes n run word more same text.0 text.1 parts).1)
          ]

  module _ (m : ℕ) (tail : IsTail (drop n bytes) m) where
    abbrev literal_bytes : List ℕ
    literal_bytes = take n bytes ++ 39 ∷ 104 ∷ take m tail.rest

    bytes_split : bytes ≡ literal_bytes ++ drop m tail.rest
    bytes_split =
        sym (take-append-drop n bytes)
        ∙ ap (λ r. take n bytes ++ r) (tail.bytes_are ∙ ap (λ r. 39 ∷ 104 ∷ r) (sym (take-append-drop m tail.rest)))
        ∙ sym (append_assoc (take n bytes) (39 ∷ 104 ∷ take m tail.rest) (drop m tail.rest))

    front_length : length (take n bytes) ≡ n
    front_length = length-take-le n bytes run.within

    digits_length : length (take m tail.rest) ≡ m
    digits_length = length-take-le m tail.rest tail.digits.within

    literal_length : length literal_bytes ≡ n + 2 + m
    literal_length =
        let digits = digits_length in
        let front = front_length in
        omega (arith, length-append (take n bytes) (39 ∷ 104 ∷ take m tail.rest))

    literal_front : take (n + 2 + m) bytes ≡ literal_bytes
    literal_front = ap (take (n + 2 + m)) bytes_split ∙ take_at literal_bytes (drop m tail.rest) (n + 2 + m) literal_length

    literal_form : IsLiteral (take (n + 2 + m) bytes)
    literal_form = (
      take n bytes,
      take m tail.rest,
      record {
        size_is = begins_run is_digit is_digit bytes n (λ b digit. digit) begins run;
        digits_are = begins_then is_hex_digit (take m tail.rest) tail.digits.passes (let some = tail.some in let long = digits_length in omega arith);
        bytes_are = literal_front;
      },
    )

    literal_within : AreWithin bytes (n + 2 + m)
    literal_within other word more same form =
        elim (number_word bytes begins other word more same form) [
          | inl digits ↦ let shorter = number_within word more same digits in omega arith
          | inr text ↦
              let parts : HasParts word text.0 text.1 = text.2 in
              let split = literal_split bytes n run word more same text.0 text.1 parts in
              let behind : 39 ∷ 104 ∷ (text.1 ++ more) ≡ 39 ∷ 104 ∷ tail.rest = split.1 ∙ tail.bytes_are in
              let rest : text.1 ++ more ≡ tail.rest = cc in
              let shorter : length text.1 ≤ m = within_run_of is_hex_digit tail.rest m tail.digits text.1 more rest (all_begun is_hex_digit text.1 parts.digits_are) in
              let size : length text.0 ≡ n = ap length split.0 ∙ front_length in
              omega (arith, ap length parts.bytes_are ∙ length-append text.0 (39 ∷ 104 ∷ text.1))
        ]

    pub literal_token : IsTokenAt bytes (literal (take (n + 2 + m) bytes)) (n + 2 + m)
    literal_token =
        let long : n + 2 + m ≤ length bytes = omega (arith, literal_length, ap length bytes_split ∙ length-append literal_bytes (drop m tail.rest)) in
        longest_token bytes (n + 2 + m) (literal (take (n + 2 + m) bytes)) long refl literal_form literal_within
