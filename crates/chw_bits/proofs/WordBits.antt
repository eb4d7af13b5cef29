-- The bits of a number's words, place by place.
use Rattle.std.proofs.Common.{◌≡◌, ℕ, zero, suc, ◌+◌, ◌-◌, ◌*◌, ◌/◌, ◌%◌, ◌^◌, ◌<◌, ◌≤◌, ◌&&◌, ◌||◌, not, Bool, true, false, cond, eqb, List, [], ◌∷◌, ◌++◌, length, map, count_by, count_ones, bit_and, bit_or, bit_xor, min, max, refl, sym, ap, subst, ◌∙◌, arith, length-append, zero-add}
use lib.Count.{ones_step}
use mir.Syntax.{w128}
use Rattle.std.specs.Int.{bit_at}
use Rattle.std.specs.List.{list_all, list_any}
use Rattle.std.proofs.Math.Nat.{pow-suc, mod-eq_of_lt}
use Rattle.std.proofs.lemmas.Nat.{pow_pos, pow-add, mod-pow-add, mod_below, field_of, shr_high, mod_low, mul-add-lt, shl_whole, ones-le, ones_cat}
use Rattle.std.proofs.lemmas.Nat.Bits.{bit_at_and, bit_at_or, bit_at_xor, bit_at_not}
use Rattle.std.proofs.lemmas.List.Sums.{sum_by-cons}
use Rattle.std.proofs.lemmas.Bool.Decides.{nat_tests}
use Rattle.chw_bits.specs.Bits.{number_of, bit_of, bits_of, cut_of}
use Rattle.chw_bits.specs.Bitwise.{bit_by_bit, differ}
use Rattle.chw_bits.proofs.Numbers.{length-bits_of, number_of_lt, number_of-append}
use Rattle.chw_bits.proofs.RoundTrips.{number_of-bits_of, same_bits, length-cut_of, number_of-cut_of}
use Rattle.chw_bits.proofs.WordResults.{number_kept}
use Rattle.chw_bits.proofs.Residues.{alike_low, alike_narrow, same_residue}

-- a digit of two values
bit_small : (n i : ℕ) → bit_at n i < 2
bit_small n i = mod_below (n / 2 ^ i) 2 (omega arith)

both_digits : (x y : ℕ) → x < 2 → y < 2 → eqb (min x y) 1 ≡ eqb x 1 && eqb y 1
both_digits x y p q = grind (arith, nat_tests)

either_digits : (x y : ℕ) → x < 2 → y < 2 → eqb (max x y) 1 ≡ eqb x 1 || eqb y 1
either_digits x y p q = grind (arith, nat_tests)

differing_digits : (x y : ℕ) → x < 2 → y < 2 → eqb ((x + y) % 2) 1 ≡ differ (eqb x 1) (eqb y 1)
differing_digits zero zero p q = refl
differing_digits zero (suc zero) p q = refl
differing_digits (suc zero) zero p q = refl
differing_digits (suc zero) (suc zero) p q = refl
differing_digits (suc (suc x)) y p q = absurd (omega arith)
differing_digits x (suc (suc y)) p q = absurd (omega arith)

flipped_digit : (x : ℕ) → x < 2 → eqb (1 - x) 1 ≡ not (eqb x 1)
flipped_digit zero p = refl
flipped_digit (suc zero) p = refl
flipped_digit (suc (suc x)) p = absurd (omega arith)

-- a number whose bits are made of those of two others, place by place
bits_by_place : (w n a b : ℕ) (of : Bool → Bool → Bool) → ((i : ℕ) → bit_of i n ≡ of (bit_of i a) (bit_of i b)) → bits_of w n ≡ bit_by_bit of (bits_of w a) (bits_of w b)
bits_by_place zero n a b of place = refl
bits_by_place (suc w) n a b of place =
    ap (λ bit. bit ∷ bits_of w n) (place w) ∙ ap (λ bits. of (bit_of w a) (bit_of w b) ∷ bits) (bits_by_place w n a b of place)

pub both_bits : (w a b : ℕ) → bits_of w (bit_and a b) ≡ bit_by_bit (λ x y. x && y) (bits_of w a) (bits_of w b)
both_bits w a b =
    bits_by_place w (bit_and a b) a b (λ x y. x && y)
    (λ i. ap (λ d. eqb d 1) (bit_at_and a b i) ∙ both_digits (bit_at a i) (bit_at b i) (bit_small a i) (bit_small b i))

pub either_bits : (w a b : ℕ) → bits_of w (bit_or a b) ≡ bit_by_bit (λ x y. x || y) (bits_of w a) (bits_of w b)
either_bits w a b =
    bits_by_place w (bit_or a b) a b (λ x y. x || y)
    (λ i. ap (λ d. eqb d 1) (bit_at_or a b i) ∙ either_digits (bit_at a i) (bit_at b i) (bit_small a i) (bit_small b i))

pub differing_bits : (w a b : ℕ) → bits_of w (bit_xor a b) ≡ bit_by_bit differ (bits_of w a) (bits_of w b)
differing_bits w a b =
    bits_by_place w (bit_xor a b) a b differ
    (λ i. ap (λ d. eqb d 1) (bit_at_xor a b i) ∙ differing_digits (bit_at a i) (bit_at b i) (bit_small a i) (bit_small b i))

-- the complement at 128 places has the flipped bits at each smaller width
pub flipped_bits : (w n : ℕ) → n < 2 ^ 128 → w ≤ 128 → bits_of w (2 ^ 128 - 1 - n) ≡ map not (bits_of w n)
flipped_bits zero n below le = refl
flipped_bits (suc w) n below le =
    let digit = ap (λ d. eqb d 1) (bit_at_not w128 n w below (omega arith)) ∙ flipped_digit (bit_at n w) (bit_small n w) in
    ap (λ bit. bit ∷ bits_of w (2 ^ 128 - 1 - n)) digit ∙ ap (λ bits. not (bit_of w n) ∷ bits) (flipped_bits w n below (omega arith))

-- all bits of a word, one of them, and how many are set
all_bits : (bits : List Bool) → eqb (number_of bits) (2 ^ length bits - 1) ≡ list_all (λ bit. bit) bits
all_bits [] = refl
all_bits (true ∷ bits) =
    let twice = pow-suc 2 (length bits) in
    let some = pow_pos (length bits) in
    let rest : eqb (2 ^ length bits + number_of bits) (2 ^ suc (length bits) - 1) ≡ eqb (number_of bits) (2 ^ length bits - 1) = grind (arith, nat_tests) in
    rest ∙ all_bits bits
all_bits (false ∷ bits) =
    let twice = pow-suc 2 (length bits) in
    let some = pow_pos (length bits) in
    let small = number_of_lt bits in
    grind (arith, nat_tests)

any_bits : (bits : List Bool) → not (eqb (number_of bits) 0) ≡ list_any (λ bit. bit) bits
any_bits [] = refl
any_bits (true ∷ bits) = let some = pow_pos (length bits) in grind (arith, nat_tests)
any_bits (false ∷ bits) = ap (λ n. not (eqb n 0)) (zero-add (number_of bits)) ∙ any_bits bits

count_bits : (bits : List Bool) → count_ones (number_of bits) ≡ count_by (λ bit. bit) bits
count_bits [] = omega (arith, ones-le 0 0 (omega arith))
count_bits (true ∷ bits) =
    let one : 2 ^ length bits + number_of bits ≡ 1 * 2 ^ length bits + number_of bits = omega arith in
    omega (arith, ap count_ones one, ones_cat (length bits) 1 (number_of bits) (number_of_lt bits), ones_step 1, ones-le 0 0 (omega arith), count_bits bits, sum_by-cons (λ (bit : Bool). cond bit 1 0) true bits)
count_bits (false ∷ bits) = omega (arith, ap count_ones (zero-add (number_of bits)), count_bits bits, sum_by-cons (λ (bit : Bool). cond bit 1 0) false bits)

-- the same of the words of a number
pub all_bits_of : (w n : ℕ) → n < 2 ^ w → eqb n (2 ^ w - 1) ≡ list_all (λ bit. bit) (bits_of w n)
all_bits_of w n below =
    ap (λ k. eqb k (2 ^ w - 1)) (sym (number_kept w n below))
    ∙ ap (λ k. eqb (number_of (bits_of w n)) (2 ^ k - 1)) (sym (length-bits_of w n))
    ∙ all_bits (bits_of w n)

pub any_bits_of : (w n : ℕ) → n < 2 ^ w → not (eqb n 0) ≡ list_any (λ bit. bit) (bits_of w n)
any_bits_of w n below = ap (λ k. not (eqb k 0)) (sym (number_kept w n below)) ∙ any_bits (bits_of w n)

pub count_bits_of : (w n : ℕ) → n < 2 ^ w → count_ones n ≡ count_by (λ bit. bit) (bits_of w n)
count_bits_of w n below = ap count_ones (sym (number_kept w n below)) ∙ count_bits (bits_of w n)

-- a smaller width keeps the same of what a greater one keeps
mod_narrow : (w v n : ℕ) → w ≤ v → n % 2 ^ v % 2 ^ w ≡ n % 2 ^ w
mod_narrow w v n le = same_residue w _ _ (alike_narrow w v _ _ le (alike_low v n))

-- a number above another at its width
pub joined_bits : (high w a b : ℕ) → b < 2 ^ w → bits_of (high + w) (a * 2 ^ w + b) ≡ bits_of high a ++ bits_of w b
joined_bits high w a b below =
    let n = a * 2 ^ w + b in
    let made = number_of-append (bits_of high a) (bits_of w b) in
    let count : length (bits_of (high + w) n) ≡ length (bits_of high a ++ bits_of w b) =
    omega (arith, length-bits_of (high + w) n, length-append (bits_of high a) (bits_of w b), length-bits_of high a, length-bits_of w b) in
    let number : number_of (bits_of (high + w) n) ≡ number_of (bits_of high a ++ bits_of w b) =
    number_of-bits_of (high + w) n
    ∙ mod-pow-add n high w
    ∙ ap (λ k. k % 2 ^ high * 2 ^ w + n % 2 ^ w) (shr_high a w b below)
    ∙ ap (λ k. a % 2 ^ high * 2 ^ w + k) (mod_low a w b below)
    ∙ ap (λ k. k * 2 ^ w + b) (sym (number_of-bits_of high a))
    ∙ ap (λ k. number_of (bits_of high a) * 2 ^ w + k) (sym (number_of-bits_of w b ∙ mod-eq_of_lt below))
    ∙ ap (λ k. number_of (bits_of high a) * 2 ^ k + number_of (bits_of w b)) (sym (length-bits_of w b))
    ∙ sym made in
    same_bits (bits_of (high + w) n) (bits_of high a ++ bits_of w b) count number

pub joined_below : (high w a b : ℕ) → a < 2 ^ high → b < 2 ^ w → a * 2 ^ w + b < 2 ^ (high + w)
joined_below high w a b small below = omega (arith, mul-add-lt a (2 ^ w) b (2 ^ high) small below, pow-add 2 high w)

pub joined_number : (w a b p r : ℕ) → w ≤ 128 → a < 2 ^ (128 - w) → r ≡ a * 2 ^ p % 2 ^ 128 → p ≡ w → r + b ≡ a * 2 ^ w + b
joined_number w a b p r le small e f =
    ap (λ k. k + b) (e ∙ ap (λ k. a * 2 ^ k % 2 ^ 128) f ∙ shl_whole a (128 - w) w 128 small (omega arith))

pub joined_fits : (w a b p r : ℕ) → w ≤ 128 → a < 2 ^ (128 - w) → b < 2 ^ w → r ≡ a * 2 ^ p % 2 ^ 128 → p ≡ w → r + b < 2 ^ 128
joined_fits w a b p r le small below e f =
    let whole : 128 - w + w ≡ 128 = omega arith in
    let fits : a * 2 ^ w + b < 2 ^ 128 = subst (λ k. a * 2 ^ w + b < 2 ^ k) whole (joined_below (128 - w) w a b small below) in
    subst (λ n. n < 2 ^ 128) (sym (joined_number w a b p r le small e f)) fits

-- the bits between two places are those of the number without the bits below
pub middle_bits : (width a high low : ℕ) → low ≤ high → high < width → bits_of (high + 1 - low) (a / 2 ^ low) ≡ cut_of high low (bits_of width a)
middle_bits width a high low order within =
    let count = high + 1 - low in
    let whole = bits_of width a in
    let rest = width - low in
    let long : length whole ≡ width = length-bits_of width a in
    let split : width ≡ rest + low = omega arith in
    let inside : high < length whole = omega arith in
    let kept : a % 2 ^ width / 2 ^ low ≡ a / 2 ^ low % 2 ^ rest = ap (λ k. a % 2 ^ k / 2 ^ low) split ∙ field_of a rest low in
    let cut : number_of (cut_of high low whole) ≡ a / 2 ^ low % 2 ^ count =
    number_of-cut_of whole high low order inside
    ∙ ap (λ k. k / 2 ^ low % 2 ^ count) (number_of-bits_of width a)
    ∙ ap (λ k. k % 2 ^ count) kept
    ∙ mod_narrow count rest (a / 2 ^ low) (omega arith) in
    same_bits (bits_of count (a / 2 ^ low)) (cut_of high low whole)
    (length-bits_of count (a / 2 ^ low) ∙ sym (length-cut_of whole high low order inside))
    (number_of-bits_of count (a / 2 ^ low) ∙ sym cut)
