-- The names, numbers and literals that are printed have their forms, and mean what they are printed for.
use Rattle.std.proofs.Common.{◌≡◌, ℕ, zero, suc, ◌+◌, ◌<◌, ◌≤◌, ◌^◌, ◌/◌, ◌%◌, Bool, true, false, not, cond, ◌&&◌, leb, ltb, eqb, List, [], ◌∷◌, ◌++◌, length, sym, refl, ap, ◌∙◌, subst, append_assoc, arith}
use Rattle.std.specs.Prelude.{IsTrue, codes, decimal}
use Rattle.std.specs.Char.{digit_value}
use Rattle.std.specs.List.{list_all}
use Rattle.std.specs.Str.Parse.{AllDigits, digits_value}
use Rattle.std.proofs.lemmas.Bool.{and_from, false≢true, false_from_ne_true, le-leb, ltb-false, ltb-true, or_left, or_right}
use Rattle.std.proofs.lemmas.Fmt.{decimal_is_IsNumeral}
use Rattle.std.proofs.lemmas.Nat.{mod_below}
use Rattle.std.proofs.lemmas.Str.Parse.{digit_from_value}
use Rattle.chw_base.specs.Names.{AllOf, IsLowerWord, IsUpper, is_capital, is_digit, is_letter_or_digit, is_name_byte, is_small_letter}
use Rattle.chw_bits.specs.Bits.{bits_of, number_of}
use Rattle.chw_bits.specs.Hex.{HasWidth, digits_at, hex_digit, hex_digits, hex_of}
use Rattle.verilog_text.specs.Declared.{IsLiteralOf, MeansBits, value}
use Rattle.verilog_text.specs.Names.{clock_name, reset_name}
use Rattle.verilog_text.specs.Text.{literal_text}
use Rattle.verilog_text.specs.VForms.{AreHexDigits, HasForm, HasParts, IsNumber, begins_word, is_hex_digit, keywords}
use Rattle.verilog_text.specs.VForms.Sort.{literal, name}
use Rattle.verilog_text.proofs.Firsts.{AllOf-from_list_all, of_table}
use Rattle.verilog_text.proofs.Longest.{all_of_append, all_of_wider, digit_is_name_byte, letter_is_name_byte}

digits_number : (bytes : List ℕ) → 0 < length bytes → AllDigits 10 bytes → IsNumber bytes
digits_number [] some digits = absurd (omega arith)
digits_number (b ∷ bytes) some digits = (digit b digits.0, each bytes digits.1)
  where
    digit : (b : ℕ) → digit_value b < 10 → IsTrue (is_digit b)
    digit b small =
        let inside = digit_from_value b small in
        and_from (leb 48 b) (leb b 57) (le-leb 48 b (omega arith)) (le-leb b 57 (omega arith))

    each : (bytes : List ℕ) → AllDigits 10 bytes → AllOf is_digit bytes
    each [] digits = tt
    each (b ∷ bytes) digits = (digit b digits.0, each bytes digits.1)

pub number_form : (n : ℕ) → n < 2 ^ 64 → IsNumber (decimal n)
number_form n small =
    let numeral = decimal_is_IsNumeral n small in digits_number (decimal n) numeral.0.0 numeral.0.1

pub value_is : (n : ℕ) → n < 2 ^ 64 → value (decimal n) ≡ n
value_is n small = (decimal_is_IsNumeral n small).1

second_no_digit : List ℕ → Bool
second_no_digit [] = false
second_no_digit (b ∷ []) = false
second_no_digit (b ∷ c ∷ bytes) = not (is_digit c)

-- a letter and a number are a name
pub numbered_form : (letter n : ℕ) → begins_word letter ≡ true → n < 2 ^ 64 → HasForm name (letter ∷ decimal n)
unfolding second_no_digit
numbered_form letter n begins small =
    let digits = number_form n small in
    ((begins, name_bytes (decimal n) digits), false_from_ne_true _ (λ key. no_keyword (decimal n) digits (of_table second_no_digit keywords (letter ∷ decimal n) refl key)))
  where
    name_bytes : (bytes : List ℕ) → IsNumber bytes → AllOf is_name_byte bytes
    name_bytes [] digits = absurd digits
    name_bytes (b ∷ bytes) digits = (digit_is_name_byte b digits.0, all_of_wider is_digit is_name_byte digit_is_name_byte bytes digits.1)

    at : (v : Bool) → v ≡ true → not v ≡ true → ⊥
    at true is n = false≢true n
    at false is n = false≢true is

    no_keyword : (bytes : List ℕ) → IsNumber bytes → second_no_digit (letter ∷ bytes) ≡ true → ⊥
    no_keyword [] digits look = digits
    no_keyword (b ∷ bytes) digits look = at (is_digit b) digits.0 look

-- no `_`
no_line : List ℕ → Bool
no_line bytes = list_all (λ b. not (eqb b 95)) bytes

upper_bytes : (d : List ℕ) → IsUpper d → AllOf is_name_byte d
upper_bytes [] form = absurd form
upper_bytes (b ∷ d) form =
    let capital : IsTrue (is_letter_or_digit b) = or_right (is_small_letter b) _ (or_left (is_capital b) (is_digit b) form.0) in
    (letter_is_name_byte b capital, all_of_wider is_letter_or_digit is_name_byte letter_is_name_byte d form.1)

lower_bytes : (d : List ℕ) → IsLowerWord d → AllOf is_name_byte d
lower_bytes [] form = absurd form
lower_bytes (b ∷ d) form = (letter_is_name_byte b (or_left (is_small_letter b) _ form.0), form.1)

pub clock_form : (d : List ℕ) → IsUpper d → HasForm name (clock_name d)
unfolding no_line
clock_form d form =
    ((refl, (refl, (refl, (refl, upper_bytes d form)))), false_from_ne_true _ (λ key. false≢true (of_table no_line keywords (clock_name d) refl key)))

pub reset_form : (d : List ℕ) → IsUpper d → HasForm name (reset_name d)
unfolding no_line
reset_form d form =
    ((refl, (refl, (refl, (refl, upper_bytes d form)))), false_from_ne_true _ (λ key. false≢true (of_table no_line keywords (reset_name d) refl key)))

full_bytes : (d n : List ℕ) → IsUpper d → IsLowerWord n → AllOf is_name_byte ((d ++ 95 ∷ []) ++ n)
full_bytes d n upper lower =
    all_of_append is_name_byte (d ++ 95 ∷ []) n (all_of_append is_name_byte d (95 ∷ []) (upper_bytes d upper) (refl, tt)) (lower_bytes n lower)

pub input_form : (d n : List ℕ) → IsUpper d → IsLowerWord n → HasForm name (codes "i_" ++ d ++ codes "_" ++ n)
unfolding no_line
input_form d n upper lower =
    ((refl, (refl, full_bytes d n upper lower)), false_from_ne_true _ (λ key. false≢true (of_table no_line keywords (codes "i_" ++ d ++ codes "_" ++ n) refl key)))

pub output_form : (d n : List ℕ) → IsUpper d → IsLowerWord n → HasForm name (codes "o_" ++ d ++ codes "_" ++ n)
unfolding no_line
output_form d n upper lower =
    ((refl, (refl, full_bytes d n upper lower)), false_from_ne_true _ (λ key. false≢true (of_table no_line keywords (codes "o_" ++ d ++ codes "_" ++ n) refl key)))

pub top_form : HasForm name (codes "chw_top")
top_form = ((refl, AllOf-from_list_all is_name_byte (codes "hw_top") refl), refl)

hex_digit_is : (n : ℕ) → n < 16 → IsTrue (is_hex_digit (hex_digit n))
hex_digit_is n small = by_case (ltb n 10) refl
  where
    by_case : (b : Bool) → ltb n 10 ≡ b → IsTrue (is_hex_digit (hex_digit n))
    by_case true is =
        let less = ltb-true n 10 is in
        let digit : IsTrue (is_digit (48 + n)) = and_from (leb 48 (48 + n)) (leb (48 + n) 57) (le-leb 48 (48 + n) (omega arith)) (le-leb (48 + n) 57 (omega arith)) in
        ap (λ (b : Bool). is_hex_digit (cond b (48 + n) (87 + n))) is ∙ or_left (is_digit (48 + n)) _ digit
    by_case false is =
        let more = ltb-false n 10 is in
        let letter : IsTrue (leb 97 (87 + n) && leb (87 + n) 102) =
        and_from (leb 97 (87 + n)) (leb (87 + n) 102) (le-leb 97 (87 + n) (omega arith)) (le-leb (87 + n) 102 (omega arith)) in
        ap (λ (b : Bool). is_hex_digit (cond b (48 + n) (87 + n))) is ∙ or_right (is_digit (87 + n)) _ (or_left (leb 97 (87 + n) && leb (87 + n) 102) _ letter)

hex_bytes : (count n : ℕ) → AllOf is_hex_digit (hex_of count n)
hex_bytes zero n = tt
hex_bytes (suc count) n = (hex_digit_is (n / 16 ^ count % 16) (mod_below (n / 16 ^ count) 16 (omega arith)), hex_bytes count n)

are_hex : (count n : ℕ) → 1 ≤ count → AreHexDigits (hex_of count n)
are_hex zero n some = absurd (omega arith)
are_hex (suc count) n some = hex_bytes (suc count) n

-- bits that are printed: some, and no more than a machine counts
abbrev pub HasBits : List Bool → Type 0
HasBits bits = (1 ≤ length bits) × (length bits < 2 ^ 64)

pub literal_parts : (bits : List Bool) → HasBits bits → HasParts (literal_text bits) (decimal (length bits)) (hex_digits bits)
literal_parts bits has = record {
  size_is = number_form (length bits) has.1;
  digits_are = are_hex (digits_at (length bits)) (number_of bits) (let some = has.0 in omega arith);
  bytes_are = append_assoc (decimal (length bits)) (codes "'h") (hex_digits bits);
}

pub literal_form : (bits : List Bool) → HasBits bits → HasForm literal (literal_text bits)
literal_form bits has = (decimal (length bits), hex_digits bits, literal_parts bits has)

-- what is known of bits
pub record BitLaws : Type 0 where
  pub digits_same : (bits : List Bool) → bits_of (length bits) (digits_value 16 (hex_digits bits)) ≡ bits
  pub digits_fit : (bits : List Bool) → HasWidth (length bits) (hex_digits bits)
  pub whole : (width n : ℕ) → n < 2 ^ width → number_of (bits_of width n) ≡ n
  pub long : (width n : ℕ) → length (bits_of width n) ≡ width
  pub below : (bits : List Bool) → number_of bits < 2 ^ length bits

module _ (laws : BitLaws) where
  -- a printed literal means its bits
  pub literal_means : (bits : List Bool) → HasBits bits → MeansBits (literal_text bits) bits
  literal_means bits has = record {
    size_digits = decimal (length bits);
    digits = hex_digits bits;
    parts = literal_parts bits has;
    size_is = value_is (length bits) has.1;
    number_is = sym (laws.whole (length bits) (digits_value 16 (hex_digits bits)) (laws.digits_fit bits).1) ∙ ap number_of (laws.digits_same bits);
    fits = laws.below bits;
  }

  -- a printed number of so many bits
  pub number_means : (width n : ℕ) → 1 ≤ width → width < 2 ^ 64 → n < 2 ^ width → IsLiteralOf (literal_text (bits_of width n)) width n
  number_means width n some small fits =
      let long = laws.long width n in
      let means = literal_means (bits_of width n) (omega (arith, long), omega (arith, long)) in
      subst (λ (w : ℕ). IsLiteralOf (literal_text (bits_of width n)) w n) long
      (subst (λ (m : ℕ). IsLiteralOf (literal_text (bits_of width n)) (length (bits_of width n)) m) (laws.whole width n fits) means)
