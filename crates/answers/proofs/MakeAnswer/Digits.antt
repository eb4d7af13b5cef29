-- The four digits of an input.
use Rattle.std.proofs.Common.{◌≡◌, ℕ, ◌+◌, ◌/◌, ◌%◌, ◌^◌, ◌≤◌, Bool, true, false, List, [], ◌∷◌, length, ap, subst, arith}
use Rattle.std.specs.Prelude.{cond, nat_lt}
use Rattle.std.specs.Str.Parse.{digits_value, AllDigits}
use Rattle.chw_bits.specs.Bits.{bits_of, number_of}
use Rattle.chw_bits.specs.Hex.{HasWidth, digits_at, hex_digit, hex_digits, hex_of}
use Rattle.answers.specs.MakeAnswer.Events.{input_at}

-- as many bits as its width says
abbrev pub MadeLength : Type 0
MadeLength = (width n : ℕ) → length (bits_of width n) ≡ width

-- the input has 16 bits
pub input_length : MadeLength → (j : ℕ) → length (input_at j) ≡ 16
unfolding input_at
input_length law j = law 16 j

either_above : (n : ℕ) (small : Bool) → 48 ≤ cond small (48 + n) (87 + n)
either_above n true = omega arith
either_above n false = omega arith

-- a digit stands behind all signs
digit_above : (n : ℕ) → 48 ≤ hex_digit n
digit_above n = either_above n (nat_lt n 10)

-- four digits, which are those of an input
pub record FourDigits (bits : List Bool) (digits : List ℕ) : Type 0 where
  pub first : ℕ
  pub second : ℕ
  pub third : ℕ
  pub fourth : ℕ
  pub are : digits ≡ first ∷ second ∷ third ∷ fourth ∷ []
  pub first_above : 48 ≤ first
  pub second_above : 48 ≤ second
  pub third_above : 48 ≤ third
  pub fourth_above : 48 ≤ fourth
  pub hex : AllDigits 16 digits
  pub wide : HasWidth 16 digits
  pub back : bits_of 16 (digits_value 16 digits) ≡ bits

-- what is promised of the digits of bits
pub record DigitsReadBack : Type 0 where
  pub digits : (bits : List Bool) → AllDigits 16 (hex_digits bits)
  pub width : (bits : List Bool) → HasWidth (length bits) (hex_digits bits)
  pub same : (bits : List Bool) → bits_of (length bits) (digits_value 16 (hex_digits bits)) ≡ bits

pub four_digits : DigitsReadBack → (bits : List Bool) → length bits ≡ 16
    → FourDigits bits (hex_digits bits)
four_digits law bits many =
    let n = number_of bits in
    record {
      first = hex_digit (n / 16 ^ 3 % 16);
      second = hex_digit (n / 16 ^ 2 % 16);
      third = hex_digit (n / 16 ^ 1 % 16);
      fourth = hex_digit (n / 16 ^ 0 % 16);
      are = ap (λ w. hex_of (digits_at w) n) many;
      first_above = digit_above _;
      second_above = digit_above _;
      third_above = digit_above _;
      fourth_above = digit_above _;
      hex = law.digits bits;
      wide = subst (λ w. HasWidth w (hex_digits bits)) many (law.width bits);
      back = subst (λ w. bits_of w (digits_value 16 (hex_digits bits)) ≡ bits) many (law.same bits);
    }

pub input_digits : MadeLength → DigitsReadBack → (j : ℕ)
    → FourDigits (input_at j) (hex_digits (input_at j))
input_digits lengths law j = four_digits law (input_at j) (input_length lengths j)
