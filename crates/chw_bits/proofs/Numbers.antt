-- Lemmas on bits and the numbers that they mean.
use Rattle.std.proofs.Common.{◌≡◌, ℕ, zero, suc, ◌+◌, ◌-◌, ◌*◌, ◌/◌, ◌%◌, ◌^◌, ◌<◌, ◌≤◌, Bool, true, false, List, [], ◌∷◌, ◌++◌, length, get_or, take, drop, refl, sym, ap, ◌∙◌, arith, append_assoc, length-append, length-take}
use mir.Val.{bool_byte}
use Rattle.std.proofs.Math.Nat.{pow-le-pow_right, pow-suc, div-eq_of_lt}
use Rattle.std.proofs.lemmas.Nat.{pow_pos, pow-add, shr_split, shr_high, mod_low, mod_below}
use Rattle.std.proofs.lemmas.List.{take_more, length-take-le, take-append-drop, length-drop}
use Rattle.chw_bits.specs.Bits.{number_of, bit_of, bits_of}

-- a number below a power is below each higher one
pub lt-pow : (n k w : ℕ) → n < 2 ^ k → k ≤ w → n < 2 ^ w
lt-pow n k w below le = let h : 2 ^ k ≤ 2 ^ w = pow-le-pow_right {n = 2} (omega arith) {i = k} {j = w} le in omega arith

-- no bit is set above the number
pub bit_of_past : (n place : ℕ) → n < 2 ^ place → bit_of place n ≡ false
bit_of_past n place below = rw (div-eq_of_lt below)

-- a number without bits above the width is below its power
pub below_from_shift : (n w : ℕ) → n / 2 ^ w ≡ 0 → n < 2 ^ w
below_from_shift n w e =
    let p : n % 2 ^ w < 2 ^ w = mod_below n (2 ^ w) (pow_pos w) in
    let s = shr_split n w in
    let s' : 0 * 2 ^ w + n % 2 ^ w ≡ n = rw e at s in
    omega arith

pub length-bits_of : (w n : ℕ) → length (bits_of w n) ≡ w
length-bits_of zero n = refl
length-bits_of (suc w) n = ap suc (length-bits_of w n)

-- one more bit, the most significant of those that are left
pub bits_of_step : (xs : List Bool) (w n : ℕ) → (xs ++ bit_of w n ∷ []) ++ bits_of w n ≡ xs ++ bits_of (suc w) n
bits_of_step xs w n = append_assoc xs (bit_of w n ∷ []) (bits_of w n)

pub bits_left : (xs all : List Bool) (w i n : ℕ) → i < w → xs ++ bits_of (w - i) n ≡ all → (xs ++ bit_of (w - 1 - i) n ∷ []) ++ bits_of (w - (i + 1)) n ≡ all
bits_left xs all w i n below e =
    let a : w - (i + 1) ≡ w - 1 - i = omega arith in
    let b : suc (w - 1 - i) ≡ w - i = omega arith in
    ap (λ k. (xs ++ bit_of (w - 1 - i) n ∷ []) ++ bits_of k n) a ∙ bits_of_step xs (w - 1 - i) n ∙ ap (λ k. xs ++ bits_of k n) b ∙ e

pub number_of_lt : (bits : List Bool) → number_of bits < 2 ^ length bits
number_of_lt [] = omega arith
number_of_lt (true ∷ bits) = omega (arith, number_of_lt bits, pow-suc 2 (length bits))
number_of_lt (false ∷ bits) = omega (arith, number_of_lt bits, pow-suc 2 (length bits))

pub number_of-append : (high low : List Bool) → number_of (high ++ low) ≡ number_of high * 2 ^ length low + number_of low
number_of-append [] low = omega arith
number_of-append (true ∷ high) low =
    let p : 2 ^ length (high ++ low) ≡ 2 ^ length high * 2 ^ length low = ap (λ k. 2 ^ k) (length-append high low) ∙ pow-add 2 (length high) (length low) in
    omega (arith, number_of-append high low)
number_of-append (false ∷ high) low = omega (arith, number_of-append high low)

-- the number grows by one bit at its end
pub number_of_push : (bits : List Bool) (bit : Bool) → number_of (bits ++ bit ∷ []) ≡ 2 * number_of bits + bool_byte bit
number_of_push bits true = omega (arith, number_of-append bits (true ∷ []))
number_of_push bits false = omega (arith, number_of-append bits (false ∷ []))

pub number_of_more : (bits : List Bool) (i : ℕ) (d : Bool) → i < length bits → number_of (take (i + 1) bits) ≡ 2 * number_of (take i bits) + bool_byte (get_or bits i d)
number_of_more bits i d below = ap number_of (take_more bits i d below) ∙ number_of_push (take i bits) (get_or bits i d)

pub number_of_take_lt : (bits : List Bool) (i : ℕ) → number_of (take i bits) < 2 ^ i
number_of_take_lt bits i = lt-pow (number_of (take i bits)) (length (take i bits)) i (number_of_lt (take i bits)) (omega (arith, length-take i bits))

-- what stands between a high number and a low one, each at its width
number_of_middle : (high part low rest whole count after rest_width part_width low_width : ℕ) → whole ≡ high * 2 ^ rest_width + rest → rest ≡ part * 2 ^ low_width + low → rest_width ≡ count + after → part_width ≡ count → low_width ≡ after → part < 2 ^ part_width → low < 2 ^ low_width → part ≡ whole / 2 ^ after % 2 ^ count
number_of_middle high part low rest whole count after rest_width part_width low_width ew er erw epw elw lp ll =
    let lp' : part < 2 ^ count = rw epw at lp in
    let ll' : low < 2 ^ after = rw elw at ll in
    let er' : rest ≡ part * 2 ^ after + low = rw elw at er in
    let ew' : whole ≡ high * 2 ^ (count + after) + rest = rw erw at ew in
    let p : 2 ^ (count + after) ≡ 2 ^ count * 2 ^ after = pow-add 2 count after in
    let hp : high * 2 ^ (count + after) ≡ high * (2 ^ count * 2 ^ after) = ap (λ n. high * n) p in
    let split : whole ≡ (high * 2 ^ count + part) * 2 ^ after + low = omega arith in
    sym (ap (λ n. n / 2 ^ after % 2 ^ count) split ∙ ap (λ n. n % 2 ^ count) (shr_high (high * 2 ^ count + part) after low ll') ∙ mod_low high count part lp')

-- the number of a part is the whole's, without the bits after it, at the part's width
pub number_of_part : (bits : List Bool) (from count after : ℕ) → from + count + after ≡ length bits → number_of (take count (drop from bits)) ≡ number_of bits / 2 ^ after % 2 ^ count
number_of_part bits from count after e =
    let front = take from bits in
    let rest = drop from bits in
    let part = take count rest in
    let back = drop count rest in
    let length-rest : length rest ≡ length bits - from = length-drop from bits in
    let length-part : length part ≡ count = length-take-le count rest (omega arith) in
    let length-back : length back ≡ after = length-drop count rest ∙ (omega arith) in
    let whole = ap number_of (sym (take-append-drop from bits)) ∙ number_of-append front rest in
    let parts = ap number_of (sym (take-append-drop count rest)) ∙ number_of-append part back in
    number_of_middle (number_of front) (number_of part) (number_of back) (number_of rest) (number_of bits) count after (length rest) (length part) (length back)
    whole parts (length-rest ∙ omega arith) length-part length-back (number_of_lt part) (number_of_lt back)
