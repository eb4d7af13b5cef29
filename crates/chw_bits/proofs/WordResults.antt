-- The results of machine arithmetic modulo a power of 2, as bits of integers.
use Rattle.std.proofs.Common.{◌≡◌, ℕ, ◌+◌, ◌-◌, ◌*◌, ◌/◌, ◌%◌, ◌^◌, ◌<◌, ◌≤◌, sym, ap, ◌∙◌, arith, ⊎_elim}
use lib.IntN.{ℤ, pos, negsuc, ◌+ℤ◌, ◌-ℤ◌, ◌*ℤ◌}
use lib.Signed.{shr_z}
use mir.Syntax.{w128}
use mir.Val.{to_z, of_z, SFits}
use borrow.Author.Differences.{sum_is_lem, neg_is}
use Rattle.std.proofs.Math.Nat.{div-eq_of_lt, mod-eq_of_lt, add-mul-mod_self_right, zero-mod, div-le_self}
use Rattle.std.proofs.lemmas.Nat.{pow-add}
use Rattle.std.proofs.lemmas.Int.{to_z-of_z}
use Rattle.std.proofs.lemmas.Bool.{cases_lt}
use Rattle.std.specs.Int.{int_div_euclid}
use Rattle.chw_bits.specs.Bits.{number_of, bits_of}
use Rattle.chw_bits.proofs.Numbers.{lt-pow}
use Rattle.chw_bits.specs.Integers.{residue_of, word_of}
use Rattle.chw_bits.proofs.RoundTrips.{number_of-bits_of}
use Rattle.chw_bits.proofs.Residues.{Alike, alike_same, alike_turned, alike_along, alike_narrow, alike_sum, alike_difference, alike_product, alike_low, alike_residue, alike_from, same_residue, word_of_alike, word_of_number}

-- shifts by the width or more
pub down_past : (n v k : ℕ) → n < 2 ^ v → v ≤ k → 0 ≡ n / 2 ^ k
down_past n v k below le = sym (div-eq_of_lt (lt-pow n v k below le))

pub low_past : (n v k : ℕ) → n < 2 ^ v → v ≤ k → n ≡ n % 2 ^ k
low_past n v k below le = sym (mod-eq_of_lt (lt-pow n v k below le))

pub up_past : (n v k : ℕ) → v ≤ k → 0 ≡ n * 2 ^ k % 2 ^ v
up_past n v k le =
    let rest = k - v in
    let split : k ≡ rest + v = omega arith in
    let power : 2 ^ k ≡ 2 ^ rest * 2 ^ v = ap (λ j. 2 ^ j) split ∙ pow-add 2 rest v in
    let product = ap (λ j. n * j) power in
    let shape : n * 2 ^ k ≡ 0 + n * 2 ^ rest * 2 ^ v = omega arith in
    sym (ap (λ j. j % 2 ^ v) shape ∙ add-mul-mod_self_right 0 (n * 2 ^ rest) (2 ^ v) ∙ zero-mod (2 ^ v))

-- a number and what a width keeps of it
pub number_kept : (w n : ℕ) → n < 2 ^ w → number_of (bits_of w n) ≡ n
number_kept w n below = number_of-bits_of w n ∙ mod-eq_of_lt below

number_alike : (w n : ℕ) → Alike (2 ^ w) (pos n) (pos (number_of (bits_of w n)))
number_alike w n = alike_turned (2 ^ w) (pos (number_of (bits_of w n))) (pos n) (rw (number_of-bits_of w n) (alike_low w n))

low_alike : (v w n : ℕ) → w ≤ v → Alike (2 ^ w) (pos (n % 2 ^ v % 2 ^ w)) (pos n)
low_alike v w n le = alike_along (2 ^ w) (pos (n % 2 ^ v % 2 ^ w)) (pos (n % 2 ^ v)) (pos n) (alike_low w (n % 2 ^ v)) (alike_narrow w v (pos (n % 2 ^ v)) (pos n) le (alike_low v n))

-- the bits of a number that was kept modulo a whole, and then at a width
kept_bits : (v w n k : ℕ) (z : ℤ) → w ≤ v → k ≡ n % 2 ^ v % 2 ^ w → Alike (2 ^ w) (pos n) z → bits_of w k ≡ word_of w z
kept_bits v w n k z le e p = word_of_alike w w k z (omega arith) (rw e (alike_along (2 ^ w) (pos (n % 2 ^ v % 2 ^ w)) (pos n) z (low_alike v w n le) p))

-- sums, differences, products and shifts of words
pub sum_bits : (v w m n k : ℕ) → w ≤ v → k ≡ (m + n) % 2 ^ v % 2 ^ w → bits_of w k ≡ word_of w (pos (number_of (bits_of w m)) +ℤ pos (number_of (bits_of w n)))
sum_bits v w m n k le e =
    let a = pos (number_of (bits_of w m)) in
    let b = pos (number_of (bits_of w n)) in
    kept_bits v w (m + n) k (a +ℤ b) le e (alike_sum (2 ^ w) (pos m) a (pos n) b (number_alike w m) (number_alike w n))

-- a number's complement is alike its opposite
subtracted : (v m n : ℕ) → n < 2 ^ v → Alike (2 ^ v) (pos (m + (2 ^ v - n))) (pos m -ℤ pos n)
subtracted v m n below = record { over = 0; under = 1; is = omega (arith, sum_is_lem, neg_is) }

pub difference_bits : (v w m n k : ℕ) → w ≤ v → n < 2 ^ v → k ≡ (m + (2 ^ v - n)) % 2 ^ v % 2 ^ w → bits_of w k ≡ word_of w (pos (number_of (bits_of w m)) -ℤ pos (number_of (bits_of w n)))
difference_bits v w m n k le below e =
    let a = pos (number_of (bits_of w m)) in
    let b = pos (number_of (bits_of w n)) in
    let whole = m + (2 ^ v - n) in
    kept_bits v w whole k (a -ℤ b) le e
    (alike_along (2 ^ w) (pos whole) (pos m -ℤ pos n) (a -ℤ b) (alike_narrow w v (pos whole) (pos m -ℤ pos n) le (subtracted v m n below))
    (alike_difference (2 ^ w) (pos m) a (pos n) b (number_alike w m) (number_alike w n)))

pub product_bits : (v w m n k : ℕ) → w ≤ v → k ≡ m * n % 2 ^ v % 2 ^ w → bits_of w k ≡ word_of w (pos (number_of (bits_of w m)) *ℤ pos (number_of (bits_of w n)))
product_bits v w m n k le e =
    let a = pos (number_of (bits_of w m)) in
    let b = pos (number_of (bits_of w n)) in
    kept_bits v w (m * n) k (a *ℤ b) le e (alike_product (2 ^ w) (pos m) a (pos n) b (number_alike w m) (number_alike w n))

pub up_bits : (v w m places k : ℕ) → w ≤ v → k ≡ m * 2 ^ places % 2 ^ v % 2 ^ w → bits_of w k ≡ word_of w (pos (number_of (bits_of w m)) *ℤ pos (2 ^ places))
up_bits v w m places k le e =
    let a = pos (number_of (bits_of w m)) in
    let weight = pos (2 ^ places) in
    kept_bits v w (m * 2 ^ places) k (a *ℤ weight) le e (alike_product (2 ^ w) (pos m) a weight weight (number_alike w m) (alike_same (2 ^ w) weight))

pub down_bits : (w a places k : ℕ) → a < 2 ^ w → k ≡ a / 2 ^ places → bits_of w k ≡ word_of w (int_div_euclid (pos (number_of (bits_of w a))) (pos (2 ^ places)))
down_bits w a places k below e =
    ap (bits_of w) e ∙ word_of_number w (a / 2 ^ places) ∙ ap (λ n. word_of w (pos (n / 2 ^ places))) (sym (number_kept w a below))

-- the words of sums, differences and products are those of the words
word_number_alike : (w : ℕ) (z : ℤ) → Alike (2 ^ w) (pos (number_of (word_of w z))) z
word_number_alike w z =
    let n = residue_of w z in
    alike_along (2 ^ w) (pos (number_of (bits_of w n))) (pos n) z (alike_turned (2 ^ w) (pos n) (pos (number_of (bits_of w n))) (number_alike w n)) (alike_residue w z)

pub word_of_sum : (w : ℕ) (y z : ℤ) → word_of w (pos (number_of (word_of w y)) +ℤ pos (number_of (word_of w z))) ≡ word_of w (y +ℤ z)
word_of_sum w y z = ap (bits_of w) (same_residue w _ _ (alike_sum (2 ^ w) (pos (number_of (word_of w y))) y (pos (number_of (word_of w z))) z (word_number_alike w y) (word_number_alike w z)))

pub word_of_difference : (w : ℕ) (y z : ℤ) → word_of w (pos (number_of (word_of w y)) -ℤ pos (number_of (word_of w z))) ≡ word_of w (y -ℤ z)
word_of_difference w y z = ap (bits_of w) (same_residue w _ _ (alike_difference (2 ^ w) (pos (number_of (word_of w y))) y (pos (number_of (word_of w z))) z (word_number_alike w y) (word_number_alike w z)))

pub word_of_product : (w : ℕ) (y z : ℤ) → word_of w (pos (number_of (word_of w y)) *ℤ pos (number_of (word_of w z))) ≡ word_of w (y *ℤ z)
word_of_product w y z = ap (bits_of w) (same_residue w _ _ (alike_product (2 ^ w) (pos (number_of (word_of w y))) y (pos (number_of (word_of w z))) z (word_number_alike w y) (word_number_alike w z)))

pub word_of_multiple : (w : ℕ) (y z : ℤ) → word_of w (pos (number_of (word_of w y)) *ℤ z) ≡ word_of w (y *ℤ z)
word_of_multiple w y z = ap (bits_of w) (same_residue w _ _ (alike_product (2 ^ w) (pos (number_of (word_of w y))) y z z (word_number_alike w y) (alike_same (2 ^ w) z)))

pub extended_bits : (v w m : ℕ) (y : ℤ) → w ≤ v → m ≡ residue_of v y → bits_of w m ≡ word_of w y
extended_bits v w m y le e = word_of_alike w v m y le (alike_from v m y e)

-- the bits of a machine integer
alike_cast : (z : ℤ) → SFits w128 z → Alike (2 ^ 128) (pos (of_z w128 z)) z
alike_cast (pos n) fits = alike_same (2 ^ 128) (pos n)
alike_cast (negsuc n) fits = let small : n < 2 ^ 127 = fits.sfits in record { over = 0; under = 1; is = omega arith }

pub cast_bits : (w : ℕ) (z : ℤ) → w ≤ 128 → SFits w128 z → bits_of w (of_z w128 z) ≡ word_of w z
cast_bits w z le fits = word_of_alike w 128 (of_z w128 z) z le (alike_cast z fits)

-- a quotient by a power is the same at each power past the number
quotient_same : (a k m : ℕ) → a < 2 ^ 127 → (k < 127 → m ≡ k) → (127 ≤ k → m ≡ 127) → a / 2 ^ m ≡ a / 2 ^ k
quotient_same a k m below small large =
    ⊎_elim (λ l. ap (λ j. a / 2 ^ j) (small l)) (λ g. ap (λ j. a / 2 ^ j) (large g) ∙ sym (down_past a 127 127 below (omega arith)) ∙ down_past a 127 k below g) (cases_lt k 127)

shift_fits : (z : ℤ) (d : ℕ) → SFits w128 z → SFits w128 (shr_z z d)
shift_fits (pos a) d f = let small : a < 2 ^ 127 = f.sfits in record { sfits = omega (arith, div-le_self a d) }
shift_fits (negsuc a) d f = let small : a < 2 ^ 127 = f.sfits in record { sfits = omega (arith, div-le_self a d) }

quotient_is : (z : ℤ) (k m : ℕ) → SFits w128 z → (k < 127 → m ≡ k) → (127 ≤ k → m ≡ 127) → shr_z z (2 ^ m) ≡ int_div_euclid z (pos (2 ^ k))
quotient_is (pos a) k m f small large = ap pos (quotient_same a k m f.sfits small large)
quotient_is (negsuc a) k m f small large = ap negsuc (quotient_same a k m f.sfits small large)

pub lowered_is : (z : ℤ) (k m : ℕ) → SFits w128 z → (k < 127 → m ≡ k) → (127 ≤ k → m ≡ 127) → to_z w128 (of_z w128 (shr_z (to_z w128 (of_z w128 z)) (2 ^ m))) ≡ int_div_euclid z (pos (2 ^ k))
lowered_is z k m f small large =
    ap (λ y. to_z w128 (of_z w128 (shr_z y (2 ^ m)))) (to_z-of_z w128 z f)
    ∙ to_z-of_z w128 (shr_z z (2 ^ m)) (shift_fits z (2 ^ m) f)
    ∙ quotient_is z k m f small large
