-- The laws of bits, their numbers and their digits.
use Rattle.std.proofs.Common.{◌≡◌, ℕ, zero, suc, ◌+◌, ◌-◌, ◌*◌, ◌/◌, ◌%◌, ◌^◌, ◌<◌, ◌≤◌, Bool, true, false, cond, eqb, List, [], ◌∷◌, ◌++◌, length, map, take, drop, refl, sym, ap, ◌∙◌, arith, length-append, length-take, length-drop}
use Rattle.std.proofs.Math.Nat.{pow-suc, mod-eq_of_lt, mod-one, add-mul-div_right, add-mul-mod_self_right}
use Rattle.std.proofs.lemmas.Nat.{pow_pos, mod-pow-add, mod_below, div-mul-add}
use Rattle.std.proofs.lemmas.List.{take_at, drop_at, take_all}
use Rattle.std.proofs.lemmas.Bool.Decides.{nat_tests}
use Rattle.std.specs.Char.{digit_value, to_ascii_lowercase}
use Rattle.std.specs.Str.Parse.{digits_value, digits_value_after, AllDigits}
use Rattle.std.proofs.lemmas.Int.Digits.{digits_value-lt}
use Rattle.chw_bits.specs.Bits.{number_of, bits_of, cut_of}
use Rattle.chw_bits.specs.Hex.{digits_at, hex_digit, hex_of, hex_digits, HasWidth}
use Rattle.chw_bits.proofs.Digits.{pow_of_16}
use Rattle.chw_bits.proofs.Numbers.{number_of_lt, number_of_part, length-bits_of, lt-pow}

-- the weight of one bit before the others
weigh : (bit weight weight' rest rest' : ℕ) → bit < 2 → weight' ≡ weight → rest ≡ rest' → cond (eqb bit 1) weight' 0 + rest ≡ bit * weight + rest'
weigh zero weight weight' rest rest' below e f = omega arith
weigh (suc zero) weight weight' rest rest' below e f = omega arith
weigh (suc (suc bit)) weight weight' rest rest' below e f = absurd (omega arith)

-- the bits of a number mean what the width keeps of it
pub number_of-bits_of : (width n : ℕ) → number_of (bits_of width n) ≡ n % 2 ^ width
number_of-bits_of zero n = sym (mod-one n)
number_of-bits_of (suc width) n =
    let width_is : suc width ≡ 1 + width = omega arith in
    let rest = number_of-bits_of width n in
    let length_is = length-bits_of width n in
    let split = ap (λ w. n % 2 ^ w) width_is ∙ mod-pow-add n 1 width in
    weigh (n / 2 ^ width % 2) (2 ^ width) (2 ^ length (bits_of width n)) (number_of (bits_of width n)) (n % 2 ^ width) (mod_below (n / 2 ^ width) 2 (omega arith)) (ap (λ w. 2 ^ w) length_is) rest ∙ sym split

-- two lists of one length have one weight before them
same_weight : (xs ys : List Bool) → length xs ≡ length ys → 2 ^ length xs ≡ 2 ^ length ys
same_weight xs ys e = ap (λ n. 2 ^ n) e

-- bits of one length with one number are the same
pub same_bits : (xs ys : List Bool) → length xs ≡ length ys → number_of xs ≡ number_of ys → xs ≡ ys
same_bits [] [] e f = refl
same_bits [] (y ∷ ys) e f = absurd (omega arith)
same_bits (x ∷ xs) [] e f = absurd (omega arith)
same_bits (true ∷ xs) (true ∷ ys) e f = ap (λ bits. true ∷ bits) (same_bits xs ys (omega arith) (omega (arith, same_weight xs ys (omega arith))))
same_bits (false ∷ xs) (false ∷ ys) e f = ap (λ bits. false ∷ bits) (same_bits xs ys (omega arith) (omega arith))
same_bits (true ∷ xs) (false ∷ ys) e f = absurd (omega (arith, same_weight xs ys (omega arith), number_of_lt ys))
same_bits (false ∷ xs) (true ∷ ys) e f = absurd (omega (arith, same_weight xs ys (omega arith), number_of_lt xs))

-- bits are those of their number
pub bits_of-number_of : (bits : List Bool) → bits_of (length bits) (number_of bits) ≡ bits
bits_of-number_of bits =
    same_bits (bits_of (length bits) (number_of bits)) bits (length-bits_of (length bits) (number_of bits))
    (number_of-bits_of (length bits) (number_of bits) ∙ mod-eq_of_lt (number_of_lt bits))

pub length-cut_of : (bits : List Bool) (high low : ℕ) → low ≤ high → high < length bits → length (cut_of high low bits) ≡ high + 1 - low
length-cut_of bits high low order within = omega (arith, length-take (high + 1 - low) (drop (length bits - 1 - high) bits), length-drop (length bits - 1 - high) bits)

pub number_of-cut_of : (bits : List Bool) (high low : ℕ) → low ≤ high → high < length bits → number_of (cut_of high low bits) ≡ number_of bits / 2 ^ low % 2 ^ (high + 1 - low)
number_of-cut_of bits high low order within = number_of_part bits (length bits - 1 - high) (high + 1 - low) low (omega arith)

-- the low part of a join, and its high part
pub cut_low : (high low : List Bool) → 0 < length low → cut_of (length low - 1) 0 (high ++ low) ≡ low
cut_low high low some =
    let from : length (high ++ low) - 1 - (length low - 1) ≡ length high = omega (arith, length-append high low) in
    ap (λ i. take (length low - 1 + 1 - 0) (drop i (high ++ low))) from
    ∙ ap (λ bits. take (length low - 1 + 1 - 0) bits) (drop_at high low (length high) refl)
    ∙ take_all (length low - 1 + 1 - 0) low (omega arith)

pub cut_high : (high low : List Bool) → 0 < length high → cut_of (length high + length low - 1) (length low) (high ++ low) ≡ high
cut_high high low some =
    let from : length (high ++ low) - 1 - (length high + length low - 1) ≡ 0 = omega (arith, length-append high low) in
    let count : length high + length low - 1 + 1 - length low ≡ length high = omega arith in
    ap (λ i. take (length high + length low - 1 + 1 - length low) (drop i (high ++ low))) from
    ∙ ap (λ n. take n (high ++ low)) count
    ∙ take_at high low (length high) refl

-- each digit is one, of its value
digit_value-hex_digit : (n : ℕ) → n < 16 → digit_value (hex_digit n) ≡ n
digit_value-hex_digit n below = grind (arith, nat_tests)

hex_digit-digit_value : (c : ℕ) → digit_value c < 16 → hex_digit (digit_value c) ≡ to_ascii_lowercase c
hex_digit-digit_value c below = grind (arith, nat_tests)

pub all-hex_of : (count n : ℕ) → AllDigits 16 (hex_of count n)
all-hex_of zero n = tt
all-hex_of (suc count) n =
    let digit = n / 16 ^ count % 16 in
    let below : digit < 16 = mod_below (n / 16 ^ count) 16 (omega arith) in
    (omega (arith, digit_value-hex_digit digit below), all-hex_of count n)

pub length-hex_of : (count n : ℕ) → length (hex_of count n) ≡ count
length-hex_of zero n = refl
length-hex_of (suc count) n = ap suc (length-hex_of count n)

-- digits after a number shift it up
value_after : (n : ℕ) (text : List ℕ) → digits_value_after 16 n text ≡ n * 16 ^ length text + digits_value 16 text
value_after n [] = omega arith
value_after n (c ∷ text) =
    let digit = digit_value c in
    let power : 16 ^ suc (length text) ≡ 16 ^ length text * 16 = pow-suc 16 (length text) in
    let shifted : n * 16 ^ suc (length text) ≡ n * (16 ^ length text * 16) = ap (λ p. n * p) power in
    omega (arith, value_after (n * 16 + digit) text, value_after (0 + digit) text)

value_cons : (c : ℕ) (text : List ℕ) → digits_value 16 (c ∷ text) ≡ digit_value c * 16 ^ length text + digits_value 16 text
value_cons c text = omega (arith, value_after (0 + digit_value c) text)

-- one more digit of a number
mod-pow_of_16 : (n count : ℕ) → n % 16 ^ suc count ≡ n / 16 ^ count % 16 * 16 ^ count + n % 16 ^ count
mod-pow_of_16 n count =
    let places : 4 * suc count ≡ 4 + 4 * count = omega arith in
    ap (λ p. n % p) (pow_of_16 (suc count) ∙ ap (λ w. 2 ^ w) places) ∙ mod-pow-add n 4 (4 * count) ∙ ap (λ p. n / p % 16 * p + n % p) (sym (pow_of_16 count))

-- the digits of a number mean what they keep of it
pub value-hex_of : (count n : ℕ) → digits_value 16 (hex_of count n) ≡ n % 16 ^ count
value-hex_of zero n = sym (mod-one n)
value-hex_of (suc count) n =
    let digit = n / 16 ^ count % 16 in
    let text = hex_of count n in
    let below : digit < 16 = mod_below (n / 16 ^ count) 16 (omega arith) in
    value_cons (hex_digit digit) text
    ∙ ap (λ d. d * 16 ^ length text + digits_value 16 text) (digit_value-hex_digit digit below)
    ∙ ap (λ w. digit * 16 ^ w + digits_value 16 text) (length-hex_of count n)
    ∙ ap (λ v. digit * 16 ^ count + v) (value-hex_of count n)
    ∙ sym (mod-pow_of_16 n count)

power_of_16_pos : (count : ℕ) → 0 < 16 ^ count
power_of_16_pos count = omega (arith, pow_of_16 count, pow_pos (4 * count))

-- the digits of a number don't see what is above them
hex_of_low : (count high low : ℕ) → hex_of count (high * 16 ^ count + low) ≡ hex_of count low
hex_of_low zero high low = refl
hex_of_low (suc count) high low =
    let p = 16 ^ count in
    let power : high * 16 ^ suc count ≡ high * (p * 16) = ap (λ q. high * q) (pow-suc 16 count) in
    let shape : high * 16 ^ suc count + low ≡ high * 16 * p + low = omega arith in
    let turned : high * 16 * p + low ≡ low + high * 16 * p = omega arith in
    let digit : (high * 16 * p + low) / p % 16 ≡ low / p % 16 =
    ap (λ n. n / p % 16) turned
    ∙ ap (λ n. n % 16) (add-mul-div_right low (high * 16) (power_of_16_pos count))
    ∙ add-mul-mod_self_right (low / p) high 16 in
    ap (λ n. hex_digit (n / p % 16) ∷ hex_of count n) shape
    ∙ ap (λ d. hex_digit d ∷ hex_of count (high * 16 * p + low)) digit
    ∙ ap (λ rest. hex_digit (low / p % 16) ∷ rest) (hex_of_low count (high * 16) low)

-- the digits of a text's number are the text, in lower case
pub hex_of-value : (text : List ℕ) → AllDigits 16 text → hex_of (length text) (digits_value 16 text) ≡ map to_ascii_lowercase text
hex_of-value [] all = refl
hex_of-value (c ∷ text) all =
    let p = 16 ^ length text in
    let digit = digit_value c in
    let rest = digits_value 16 text in
    let value = value_cons c text in
    let below : rest < p = digits_value-lt 16 text all.1 in
    let first : (digit * p + rest) / p % 16 ≡ digit = ap (λ n. n % 16) (div-mul-add digit p rest below) ∙ mod-eq_of_lt all.0 in
    ap (λ n. hex_digit (n / p % 16) ∷ hex_of (length text) n) value
    ∙ ap (λ d. hex_digit d ∷ hex_of (length text) (digit * p + rest)) first
    ∙ ap (λ d. d ∷ hex_of (length text) (digit * p + rest)) (hex_digit-digit_value c all.0)
    ∙ ap (λ ds. to_ascii_lowercase c ∷ ds) (hex_of_low (length text) digit rest ∙ hex_of-value text all.1)

-- the digits of bits mean them
pub value-hex_digits : (bits : List Bool) → digits_value 16 (hex_digits bits) ≡ number_of bits
value-hex_digits bits =
    let count = digits_at (length bits) in
    let below : number_of bits < 2 ^ (4 * count) = lt-pow (number_of bits) (length bits) (4 * count) (number_of_lt bits) (omega arith) in
    let below' : number_of bits < 16 ^ count = omega (arith, pow_of_16 count) in
    value-hex_of count (number_of bits) ∙ mod-eq_of_lt below'

pub hex_digits-HasWidth : (bits : List Bool) → HasWidth (length bits) (hex_digits bits)
hex_digits-HasWidth bits = (length-hex_of (digits_at (length bits)) (number_of bits), omega (arith, value-hex_digits bits, number_of_lt bits))

-- the digits of a text's bits are the text, in lower case
pub hex_digits-bits_of : (width : ℕ) (text : List ℕ) → AllDigits 16 text → HasWidth width text → hex_digits (bits_of width (digits_value 16 text)) ≡ map to_ascii_lowercase text
hex_digits-bits_of width text all has =
    let value = digits_value 16 text in
    ap (λ w. hex_of (digits_at w) (number_of (bits_of width value))) (length-bits_of width value)
    ∙ ap (λ n. hex_of (digits_at width) n) (number_of-bits_of width value ∙ mod-eq_of_lt has.1)
    ∙ ap (λ count. hex_of count value) (sym has.0)
    ∙ hex_of-value text all
