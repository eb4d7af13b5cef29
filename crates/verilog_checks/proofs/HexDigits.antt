-- The digits of a literal, which are hexadecimal.
use Rattle.std.proofs.Common.{◌≡◌, ℕ, zero, suc, ◌+◌, ◌<◌, eqb, false, inl, inr, List, [], ◌∷◌, ◌++◌, length, take, drop, replicate, refl, arith}
use Rattle.std.proofs.lemmas.Bool.Decides.{nat_tests}
use Rattle.std.proofs.lemmas.Bool.{ne_eqb, or_cases}
use Rattle.std.specs.Char.{digit_value}
use Rattle.std.specs.List.{after_first, position_or_len}
use Rattle.std.specs.Prelude.{IsTrue}
use Rattle.std.specs.Str.Parse.{AllDigits}
use Rattle.chw_base.specs.Names.{AllOf, is_digit}
use Rattle.verilog_text.specs.VForms.{AreHexDigits, HasParts, IsLiteral, is_hex_digit}
use Rattle.verilog_text.proofs.Firsts.{digit_range, number_digits, range}

hex_below : (b : ℕ) → IsTrue (is_hex_digit b) → digit_value b < 16
hex_below b hex = elim (or_cases (is_digit b) _ hex) [
  | inl digit ↦ let inside = digit_range b digit in grind (arith, nat_tests)
  | inr letter ↦ elim (or_cases _ _ letter) [
    | inl small ↦ let inside = range 97 102 b small in grind (arith, nat_tests)
    | inr capital ↦ let inside = range 65 70 b capital in grind (arith, nat_tests)
  ]
]

all_hex : (digits : List ℕ) → AllOf is_hex_digit digits → AllDigits 16 digits
all_hex [] all = tt
all_hex (d ∷ digits) all = (hex_below d all.0, all_hex digits all.1)

are_hex : (digits : List ℕ) → AreHexDigits digits → AllDigits 16 digits
are_hex [] are = absurd are
are_hex (d ∷ digits) are = (hex_below d are.0, all_hex digits are.1)

-- the first `'` behind digits
first_quote : (size rest : List ℕ) → AllOf is_digit size → position_or_len (λ (b : ℕ). eqb b 39) (size ++ 39 ∷ rest) ≡ length size
first_quote [] rest all = refl
first_quote (d ∷ size) rest all =
    let inside = digit_range d all.0 in
    let other : eqb d 39 ≡ false = ne_eqb d 39 (λ same. omega arith) in
    let more : position_or_len (λ (b : ℕ). eqb b 39) (size ++ 39 ∷ rest) ≡ length size = first_quote size rest all.1 in
    rw other (rw more (omega arith))

behind_all : (xs : List ℕ) (y : ℕ) (ys : List ℕ) → drop (suc (length xs)) (xs ++ y ∷ ys) ≡ ys
behind_all [] y ys = refl
behind_all (x ∷ xs) y ys = behind_all xs y ys

-- the digits of a literal, behind `'h`
pub literal_digits : (bytes : List ℕ) → IsLiteral bytes → AllDigits 16 (drop 1 (after_first (λ b. eqb b 39) bytes))
literal_digits bytes form =
    let size : List ℕ = form.0 in
    let hex : List ℕ = form.1 in
    let parts : HasParts bytes size hex = form.2 in
    let at : position_or_len (λ (b : ℕ). eqb b 39) bytes ≡ length size = rw parts.bytes_are (first_quote size (104 ∷ hex) (number_digits size parts.size_is)) in
    let next : length size + 1 ≡ suc (length size) = omega arith in
    let back : drop (length size + 1) bytes ≡ 104 ∷ hex = rw (next, parts.bytes_are) (behind_all size 39 (104 ∷ hex)) in
    rw (at, back) (are_hex hex parts.digits_are)

pub all_dropped : (k : ℕ) (digits : List ℕ) → AllDigits 16 digits → AllDigits 16 (drop k digits)
all_dropped zero digits all = all
all_dropped (suc k) [] all = all
all_dropped (suc k) (d ∷ digits) all = all_dropped k digits all.1

pub all_padded : (k : ℕ) (digits : List ℕ) → AllDigits 16 digits → AllDigits 16 (replicate k 48 ++ digits)
all_padded zero digits all = all
all_padded (suc k) digits all = (omega arith, all_padded k digits all)

pub all_taken : (k : ℕ) (digits : List ℕ) → AllDigits 16 digits → AllDigits 16 (take k digits)
all_taken zero digits all = tt
all_taken (suc k) [] all = tt
all_taken (suc k) (d ∷ digits) all = (all.0, all_taken k digits all.1)
