-- Lemmas on the number of a hexadecimal text.
use Rattle.std.proofs.Common.{◌≡◌, ℕ, zero, suc, ◌+◌, ◌-◌, ◌*◌, ◌/◌, ◌%◌, ◌^◌, ◌<◌, ◌≤◌, ◌↔◌, ◌==◌, Bool, true, ◌&&◌, ltb, List, [], ◌∷◌, ◌++◌, length, get_or, take, sym, ap, subst, ◌∙◌, arith, append_assoc, zero-add}
use Rattle.std.proofs.Math.Nat.{pow-suc, div-one, div-div-eq-div-mul, div-lt_iff_lt-mul}
use Rattle.std.proofs.lemmas.Nat.{pow-add, pow_pos, shr-shr, field_of, mod-pow-add, mod_low, div-mul-add, mod-mul-add, mod_below}
use Rattle.std.proofs.lemmas.Bool.{and_from, and_parts}
use Rattle.std.proofs.lemmas.Bool.Decides.{Decides-ltb}
use Rattle.std.proofs.lemmas.List.{take_all, take_more}
use Rattle.std.proofs.lemmas.Int.Digits.{digits_more, digits_value_more}
use Rattle.std.specs.Char.{digit_value}
use Rattle.std.specs.Str.Parse.{digits_value, AllDigits}
use Rattle.chw_bits.specs.Bits.{bit_of, bits_of}
use Rattle.chw_bits.specs.Hex.{digits_at}
use Rattle.chw_bits.proofs.Digits.{pow_of_16}

pub digit_below : (text : List ℕ) (i : ℕ) → AllDigits 16 text → i < length text → digit_value (get_or text i 0) < 16
digit_below [] i all below = absurd (omega arith)
digit_below (c ∷ text) zero all below = all.0
digit_below (c ∷ text) (suc i) all below = digit_below text i all.1 (omega arith)

push_less : (xs : List ℕ) (c : ℕ) → AllDigits 16 (xs ++ c ∷ []) → AllDigits 16 xs × (digit_value c < 16)
push_less [] c all = (tt, all.0)
push_less (x ∷ xs) c all = let rest = push_less xs c all.1 in ((all.0, rest.0), rest.1)

-- one more byte that was tested
pub tested_more : (text : List ℕ) (i : ℕ) (all is : Bool) → i < length text → is ≡ ltb (digit_value (get_or text i 0)) 16
    → (all ≡ true ↔ AllDigits 16 (take i text)) → ((all && is) ≡ true ↔ AllDigits 16 (take (i + 1) text))
tested_more text i all is within test so_far = (
  λ both.
      let parts = and_parts all is both in
      digits_more 16 text i within (so_far.0 parts.0) ((Decides-ltb (digit_value (get_or text i 0)) 16).0 (sym test ∙ parts.1)),
  λ digits.
      let less = push_less (take i text) (get_or text i 0) (subst (AllDigits 16) (take_more text i 0 within) digits) in
      and_from all is (so_far.1 less.0) (test ∙ (Decides-ltb (digit_value (get_or text i 0)) 16).1 less.1),
)

-- a front of the text, without some of its last digits
pub digits_shift : (text : List ℕ) (m k : ℕ) → AllDigits 16 text → k ≤ m → m ≤ length text → digits_value 16 (take m text) / 16 ^ k ≡ digits_value 16 (take (m - k) text)
digits_shift text m zero all le within = div-one (digits_value 16 (take m text)) ∙ ap (λ n. digits_value 16 (take n text)) (omega arith)
digits_shift text m (suc k) all le within =
    let i = m - suc k in
    let v = digits_value 16 (take m text) in
    let next : m - k ≡ i + 1 = omega arith in
    let digit = digit_below text i all (omega arith) in
    ap (λ p. v / p) (pow-suc 16 k)
    ∙ sym (div-div-eq-div-mul v (16 ^ k) 16)
    ∙ ap (λ n. n / 16) (digits_shift text m k all (omega arith) within ∙ ap (λ n. digits_value 16 (take n text)) next ∙ digits_value_more 16 text i (omega arith))
    ∙ div-mul-add (digits_value 16 (take i text)) 16 (digit_value (get_or text i 0)) digit

-- the digit of a place, the least significant place 0
pub digit_of_place : (text : List ℕ) (k : ℕ) → AllDigits 16 text → k < length text → digits_value 16 text / 16 ^ k % 16 ≡ digit_value (get_or text (length text - 1 - k) 0)
digit_of_place text k all within =
    let i = length text - 1 - k in
    let next : length text - k ≡ i + 1 = omega arith in
    ap (λ t. digits_value 16 t / 16 ^ k % 16) (sym (take_all (length text) text (omega arith)))
    ∙ ap (λ n. n % 16) (digits_shift text (length text) k all (omega arith) (omega arith) ∙ ap (λ n. digits_value 16 (take n text)) next ∙ digits_value_more 16 text i (omega arith))
    ∙ mod-mul-add (digits_value 16 (take i text)) 16 (digit_value (get_or text i 0)) (digit_below text i all (omega arith))

even_part : (n j : ℕ) → n % 2 ^ (j + 1) % 2 ≡ n % 2
even_part n j = ap (λ m. m % 2) (mod-pow-add n j 1) ∙ mod_low (n / 2 % 2 ^ j) 1 (n % 2) (mod_below n 2 (omega arith))

-- a bit stands in the digit of a quarter of its place
pub bit_of_digit : (n place : ℕ) → bit_of place n ≡ bit_of (place % 4) (n / 16 ^ (place / 4) % 16)
bit_of_digit n place =
    let k = place / 4 in
    let r = place % 4 in
    let m = n / 2 ^ (4 * k) in
    let small : r < 4 = mod_below place 4 (omega arith) in
    let split : place ≡ 4 * k + r = omega arith in
    let top : 4 - r ≡ 3 - r + 1 = omega arith in
    let four : 4 - r + r ≡ 4 = omega arith in
    let shifted : n / 2 ^ place ≡ m / 2 ^ r = ap (λ p. n / 2 ^ p) split ∙ sym (shr-shr n (4 * k) r) in
    let field : m % 16 / 2 ^ r ≡ m / 2 ^ r % 2 ^ (3 - r + 1) = ap (λ p. m % 2 ^ p / 2 ^ r) (sym four) ∙ field_of m (4 - r) r ∙ ap (λ p. m / 2 ^ r % 2 ^ p) top in
    let digit : n / 16 ^ k % 16 / 2 ^ r ≡ m / 2 ^ r % 2 ^ (3 - r + 1) = ap (λ p. n / p % 16 / 2 ^ r) (pow_of_16 k) ∙ field in
    let last : n / 2 ^ place % 2 ≡ n / 16 ^ k % 16 / 2 ^ r % 2 = ap (λ d. d % 2) shifted ∙ sym (ap (λ d. d % 2) digit ∙ even_part (m / 2 ^ r) (3 - r)) in
    ap (λ d. d == 1) last

-- the number of a text is below a width's power exactly where its first digit is below what is left for it
pub first_below : (text : List ℕ) (width : ℕ) → AllDigits 16 text → length text ≡ digits_at width → 0 < width → (digit_value (get_or text 0 0) < 2 ^ ((width - 1) % 4 + 1)) ↔ (digits_value 16 text < 2 ^ width)
first_below text width all count positive =
    let k = length text - 1 in
    let r = (width - 1) % 4 + 1 in
    let split : width ≡ r + 4 * k = omega arith in
    let one : length text - k ≡ 0 + 1 = omega arith in
    let first : digits_value 16 text / 16 ^ k ≡ digit_value (get_or text 0 0) =
    ap (λ t. digits_value 16 t / 16 ^ k) (sym (take_all (length text) text (omega arith)))
    ∙ digits_shift text (length text) k all (omega arith) (omega arith)
    ∙ ap (λ n. digits_value 16 (take n text)) one
    ∙ digits_value_more 16 text 0 (omega arith) ∙ zero-add (digit_value (get_or text 0 0)) in
    let power : 2 ^ r * 16 ^ k ≡ 2 ^ width = ap (λ p. 2 ^ r * p) (pow_of_16 k) ∙ sym (ap (λ p. 2 ^ p) split ∙ pow-add 2 r (4 * k)) in
    let positive_power : 0 < 16 ^ k = omega (arith, pow_of_16 k, pow_pos (4 * k)) in
    let shifted = div-lt_iff_lt-mul {k = 16 ^ k} {x = digits_value 16 text} {y = 2 ^ r} positive_power in
    (λ below. omega (arith, shifted.0 (omega arith)), λ below. omega (arith, shifted.1 (omega arith)))

-- the lowest bits of the digit of a place stand in front of those of the places below it
pub bits_of_digit : (n k c : ℕ) → c ≤ 4 → bits_of (4 * k + c) n ≡ bits_of c (n / 16 ^ k % 16) ++ bits_of (4 * k) n
bits_of_digit n k zero few = ap (λ w. bits_of w n) (omega arith)
bits_of_digit n k (suc c) few =
    let next : 4 * k + suc c ≡ suc (4 * k + c) = omega arith in
    let place : (4 * k + c) / 4 ≡ k = omega arith in
    let within : (4 * k + c) % 4 ≡ c = omega arith in
    let bit : bit_of (4 * k + c) n ≡ bit_of c (n / 16 ^ k % 16) = bit_of_digit n (4 * k + c) ∙ ap (λ r. bit_of r (n / 16 ^ ((4 * k + c) / 4) % 16)) within ∙ ap (λ j. bit_of c (n / 16 ^ j % 16)) place in
    ap (λ w. bits_of w n) next ∙ ap (λ b. b ∷ bits_of (4 * k + c) n) bit ∙ ap (λ bs. bit_of c (n / 16 ^ k % 16) ∷ bs) (bits_of_digit n k c (omega arith))

-- the digits so far and those that are left: one more, of which so many bits are taken
pub bits_of_digits_left : (xs all : List Bool) (text : List ℕ) (i c : ℕ) → AllDigits 16 text → i < length text → c ≤ 4 → xs ++ bits_of (4 * (length text - (i + 1)) + c) (digits_value 16 text) ≡ all → (xs ++ bits_of c (digit_value (get_or text i 0))) ++ bits_of (4 * (length text - (i + 1))) (digits_value 16 text) ≡ all
bits_of_digits_left xs all text i c are below few e =
    let n = digits_value 16 text in
    let k = length text - (i + 1) in
    let back : length text - 1 - k ≡ i = omega arith in
    let digit : n / 16 ^ k % 16 ≡ digit_value (get_or text i 0) = digit_of_place text k are (omega arith) ∙ ap (λ j. digit_value (get_or text j 0)) back in
    append_assoc xs (bits_of c (digit_value (get_or text i 0))) (bits_of (4 * k) n)
    ∙ ap (λ d. xs ++ (bits_of c d ++ bits_of (4 * k) n)) (sym digit)
    ∙ ap (λ bs. xs ++ bs) (sym (bits_of_digit n k c few))
    ∙ e
