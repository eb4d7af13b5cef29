-- Texts of digits.
use Rattle.std.proofs.Common.{ℕ, zero, suc, ◌^◌, ◌<◌, ◌≤◌, List, [], ◌∷◌, length, get_or, take, arith}
use Rattle.std.specs.Char.{digit_value}
use Rattle.std.specs.Str.Parse.{digits_value, AllDigits}
use Rattle.std.proofs.lemmas.Int.Digits.{digits_value-lt}
use Rattle.std.proofs.lemmas.List.{length-take}
use Rattle.std.proofs.Math.Nat.{pow-le-pow_right}

pub digit_below : (radix : ℕ) (text : List ℕ) (i : ℕ) → AllDigits radix text → i < length text → digit_value (get_or text i 0) < radix
digit_below radix [] i all below = absurd (omega arith)
digit_below radix (c ∷ text) zero all below = all.0
digit_below radix (c ∷ text) (suc i) all below = digit_below radix text i all.1 (omega arith)

digits_front : (radix : ℕ) (text : List ℕ) (i : ℕ) → AllDigits radix text → AllDigits radix (take i text)
digits_front radix text zero all = tt
digits_front radix [] (suc i) all = tt
digits_front radix (c ∷ text) (suc i) all = (all.0, digits_front radix text i all.1)

-- before the last of at most six decimal digits the number is below 100,000
pub few_digits : (text : List ℕ) (i : ℕ) → AllDigits 10 text → length text ≤ 6 → i < length text → digits_value 10 (take i text) < 100000
few_digits text i all few within =
    let below = digits_value-lt 10 (take i text) (digits_front 10 text i all) in
    let count : length (take i text) ≤ 5 = omega (arith, length-take i text) in
    let power : 10 ^ length (take i text) ≤ 10 ^ 5 = pow-le-pow_right {n = 10} (omega arith) count in
    omega arith
