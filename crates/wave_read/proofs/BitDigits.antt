-- The digits of bits.
use Rattle.std.proofs.Common.{◌≡◌, ℕ, ◌<◌, Bool, true, false, List, [], ◌∷◌, length, map, take, inl, inr, refl, sym, ap, ◌∙◌, subst, arith}
use Rattle.std.specs.Prelude.{◌||◌, ◌==◌}
use Rattle.std.proofs.lemmas.Bool.{false≢true}
use Rattle.std.proofs.lemmas.Bool.Decides.{eqb_tells}
use Rattle.chw_base.specs.Names.{AllOf, BeginsThen}
use Rattle.waves.specs.Vcd.{digit_of}
use Rattle.wave_text.specs.VcdText.{AreBits}
use Rattle.wave_read.specs.Shown.{bits_of, is_bit}

-- a digit is that of its bit
pub digit_back : (d : ℕ) → is_bit d ≡ true → digit_of (d == 49) ≡ d
digit_back d is =
    elim (eqb_tells d 49) [
      | inl one ↦ ap digit_of one.0 ∙ sym one.1
      | inr other ↦
          elim (eqb_tells d 48) [
            | inl zero ↦ ap digit_of other.0 ∙ sym zero.1
            | inr neither ↦ absurd (false≢true (sym (ap (λ (b : Bool). b || (d == 49)) neither.0 ∙ other.0) ∙ is))
          ]
    ]

pub digits_back : (digits : List ℕ) → AllOf is_bit digits → map digit_of (bits_of digits) ≡ digits
digits_back [] all = refl
digits_back (d ∷ digits) all =
    ap (λ (n : ℕ). n ∷ map digit_of (bits_of digits)) (digit_back d all.0) ∙ ap (λ (ds : List ℕ). d ∷ ds) (digits_back digits all.1)

digits_are_bits : (value : List Bool) → AllOf is_bit (map digit_of value)
digits_are_bits [] = tt
digits_are_bits (true ∷ value) = (refl, digits_are_bits value)
digits_are_bits (false ∷ value) = (refl, digits_are_bits value)

some_digits : (value : List Bool) → 0 < length value → BeginsThen is_bit is_bit (map digit_of value)
some_digits [] some = absurd (omega arith)
some_digits (bit ∷ value) some = digits_are_bits (bit ∷ value)

-- digits behind `b` are those of a value
pub value_back : (bytes digits : List ℕ) → bytes ≡ 98 ∷ digits → BeginsThen is_bit is_bit digits → AreBits bytes (bits_of digits)
value_back bytes [] is begins = absurd begins
value_back bytes (d ∷ digits) is begins = record {
  bytes_are = is ∙ ap (λ (ds : List ℕ). 98 ∷ ds) (sym (digits_back (d ∷ digits) begins));
  some = omega arith;
}

-- a value behind `b` has digits
pub value_digits : (digits : List ℕ) (value : List Bool) → digits ≡ map digit_of value → 0 < length value → BeginsThen is_bit is_bit digits
value_digits digits value is some = subst (BeginsThen is_bit is_bit) (sym is) (some_digits value some)

-- the bit of a word's first digit
pub first_bit : (bytes code : List ℕ) (bit : Bool) → bytes ≡ digit_of bit ∷ code → bits_of (take 1 bytes) ≡ bit ∷ []
first_bit bytes code true is = ap (λ (bs : List ℕ). bits_of (take 1 bs)) is
first_bit bytes code false is = ap (λ (bs : List ℕ). bits_of (take 1 bs)) is
