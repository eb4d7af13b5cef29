-- Digits behind zeros, and digits of which the first ones are left out.
use Rattle.std.proofs.Common.{◌≡◌, ℕ, zero, suc, ◌+◌, ◌-◌, ◌*◌, ◌^◌, ◌<◌, ◌≤◌, List, [], ◌∷◌, ◌++◌, length, replicate, take, drop, refl, sym, ap, ◌∙◌, arith}
use Rattle.std.proofs.Math.Nat.{pow-suc, pow-le-pow_right, mul-le-mul_right}
use Rattle.std.proofs.lemmas.List.{length-drop, take-append-drop, take_all}
use Rattle.std.specs.Char.{digit_value}
use Rattle.std.specs.Prelude.{min}
use Rattle.std.specs.Str.Parse.{digits_value, digits_value_after}
use Rattle.chw_bits.proofs.Digits.{pow_of_16}
use Rattle.chw_bits.specs.Hex.{digits_at}

-- digits after a number shift it up
value_after : (n : ℕ) (text : List ℕ) → digits_value_after 16 n text ≡ n * 16 ^ length text + digits_value 16 text
value_after n [] = omega arith
value_after n (c ∷ text) =
    let digit = digit_value c in
    let power : 16 ^ suc (length text) ≡ 16 ^ length text * 16 = pow-suc 16 (length text) in
    let shifted : n * 16 ^ suc (length text) ≡ n * (16 ^ length text * 16) = ap (λ p. n * p) power in
    omega (arith, value_after (n * 16 + digit) text, value_after (0 + digit) text)

-- digits behind others, which come first
after_both : (n : ℕ) (xs ys : List ℕ) → digits_value_after 16 n (xs ++ ys) ≡ digits_value_after 16 (digits_value_after 16 n xs) ys
after_both n [] ys = refl
after_both n (x ∷ xs) ys = after_both (n * 16 + digit_value x) xs ys

pub value_append : (xs ys : List ℕ) → digits_value 16 (xs ++ ys) ≡ digits_value 16 xs * 16 ^ length ys + digits_value 16 ys
value_append xs ys = after_both 0 xs ys ∙ value_after (digits_value 16 xs) ys

value_zeros : (k : ℕ) → digits_value 16 (replicate k 48) ≡ 0
value_zeros zero = refl
value_zeros (suc k) = value_zeros k

-- zeros before digits change no number
pub value_padded : (k : ℕ) (ys : List ℕ) → digits_value 16 (replicate k 48 ++ ys) ≡ digits_value 16 ys
value_padded k ys = let h : digits_value 16 (replicate k 48 ++ ys) ≡ digits_value 16 (replicate k 48) * 16 ^ length ys + digits_value 16 ys = value_append (replicate k 48) ys in
    let none : digits_value 16 (replicate k 48) * 16 ^ length ys ≡ 0 * 16 ^ length ys = ap (λ n. n * 16 ^ length ys) (value_zeros k) in omega (arith, h, none)

-- the number of digits, by the first ones and the others
value_parted : (k : ℕ) (digits : List ℕ) → digits_value 16 digits ≡ digits_value 16 (take k digits) * 16 ^ (length digits - k) + digits_value 16 (drop k digits)
value_parted k digits =
    ap (digits_value 16) (sym (take-append-drop k digits)) ∙ value_append (take k digits) (drop k digits)
    ∙ ap (λ n. digits_value 16 (take k digits) * 16 ^ n + digits_value 16 (drop k digits)) (length-drop k digits)

-- as many digits as a width takes weigh no less than it
weigh_enough : (width : ℕ) → 2 ^ width ≤ 16 ^ digits_at width
weigh_enough width =
    let wide : 2 ^ width ≤ 2 ^ (4 * digits_at width) = pow-le-pow_right {n = 2} (omega arith) (omega arith) in
    omega (arith, wide, pow_of_16 (digits_at width))

-- what stands before as many digits as a width takes is no zero: the number doesn't fit
pub too_many : (width : ℕ) (digits : List ℕ) (count extra front : ℕ) → count ≡ digits_at width → extra ≡ length digits - count
    → front ≡ min (digits_value 16 (take extra digits)) (2 ^ 64 - 1) → 0 < front → 2 ^ width ≤ digits_value 16 digits
too_many width digits count zero front many more reads some = absurd (omega (arith, reads, some))
too_many width digits count (suc extra) front many more reads some =
    let left : length digits - suc extra ≡ digits_at width = omega (arith, many, more) in
    let high : 1 ≤ digits_value 16 (take (suc extra) digits) = omega (arith, reads, some) in
    let weighs : 1 * 16 ^ digits_at width ≤ digits_value 16 (take (suc extra) digits) * 16 ^ digits_at width = mul-le-mul_right (16 ^ digits_at width) high in
    let parted : digits_value 16 digits ≡ digits_value 16 (take (suc extra) digits) * 16 ^ digits_at width + digits_value 16 (drop (suc extra) digits) =
    value_parted (suc extra) digits ∙ ap (λ n. digits_value 16 (take (suc extra) digits) * 16 ^ n + digits_value 16 (drop (suc extra) digits)) left in
    omega (arith, weighs, parted, weigh_enough width)

-- it is zero: the others have the number
pub others_value : (digits : List ℕ) (extra front : ℕ) → front ≡ min (digits_value 16 (take extra digits)) (2 ^ 64 - 1) → front ≤ 0
    → digits_value 16 (take (length digits - extra) (drop extra digits)) ≡ digits_value 16 digits
others_value digits extra front reads none =
    let zeros : digits_value 16 (take extra digits) ≡ 0 = omega (arith, reads, none) in
    let nothing : digits_value 16 (take extra digits) * 16 ^ (length digits - extra) ≡ 0 * 16 ^ (length digits - extra) = ap (λ n. n * 16 ^ (length digits - extra)) zeros in
    let short : length (drop extra digits) ≤ length digits - extra = omega (arith, length-drop extra digits) in
    let all : digits_value 16 (take (length digits - extra) (drop extra digits)) ≡ digits_value 16 (drop extra digits) =
    ap (digits_value 16) (take_all (length digits - extra) (drop extra digits) short) in
    omega (arith, nothing, value_parted extra digits, all)
