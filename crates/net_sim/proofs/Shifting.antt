-- Words moved up and down, with bits put in.
use Rattle.std.proofs.Common.{◌≡◌, ℕ, zero, suc, ◌+◌, ◌-◌, ◌*◌, ◌/◌, ◌%◌, ◌^◌, ◌<◌, ◌≤◌, min, Bool, true, false, List, ◌++◌, length, take, drop, get_or, replicate, pos, negsuc, ◌*ℤ◌, refl, sym, ap, ◌∙◌, arith, ◌⊎◌, inl, inr, length-append, length-drop}
use Rattle.std.specs.Int.{int_div_euclid}
use Rattle.std.proofs.Math.Nat.{div-le_self, mod-eq_of_lt, mod-mod, pow-suc}
use Rattle.std.proofs.lemmas.Bool.{cases_lt}
use Rattle.std.proofs.lemmas.List.{length-replicate, length-take-le, take_all, take-append-drop}
use Rattle.std.proofs.lemmas.Nat.{mod_low, pow_pos, shr_high, div-add-mod', mod_below}
use Rattle.chw_bits.specs.Bits.{bits_of, number_of}
use Rattle.chw_bits.specs.Integers.{signed, word_of}
use Rattle.chw_bits.proofs.Numbers.{number_of-append, number_of_lt, number_of_part}
use Rattle.chw_bits.proofs.Residues.{Alike, word_of_alike}
use Rattle.chw_bits.proofs.RoundTrips.{bits_of-number_of}
use Rattle.chw_bits.proofs.Signs.{negative_is, positive_is}
use Rattle.chw_bits.proofs.WordResults.{down_bits, down_past, up_bits, up_past}

number_of_zeros : (k : ℕ) → number_of (replicate k false) ≡ 0
number_of_zeros zero = refl
number_of_zeros (suc k) = omega (arith, number_of_zeros k)

number_of_ones : (k : ℕ) → number_of (replicate k true) + 1 ≡ 2 ^ k
number_of_ones zero = refl
number_of_ones (suc k) =
    let width : 2 ^ length (replicate k true) ≡ 2 ^ k = ap (λ n. 2 ^ n) (length-replicate k true) in
    omega (arith, number_of_ones k, pow-suc 2 k)

-- a quotient by a power of at most the width is the one by the whole power
capped_quotient : (q n m k : ℕ) → q < 2 ^ n → k ≡ min m n → q / 2 ^ k ≡ q / 2 ^ m
capped_quotient q n m k below is = by (cases_lt m n)
  where
    by : (m < n) ⊎ (n ≤ m) → q / 2 ^ k ≡ q / 2 ^ m
    by (inl less) = let same : k ≡ m = omega arith in ap (λ j. q / 2 ^ j) same
    by (inr more) = let same : k ≡ n = omega arith in ap (λ j. q / 2 ^ j) same ∙ sym (down_past q n n below (omega arith)) ∙ down_past q n m below more

capped_product : (x n m k : ℕ) → k ≡ min m n → x * 2 ^ k % 2 ^ n ≡ x * 2 ^ m % 2 ^ n
capped_product x n m k is = by (cases_lt m n)
  where
    by : (m < n) ⊎ (n ≤ m) → x * 2 ^ k % 2 ^ n ≡ x * 2 ^ m % 2 ^ n
    by (inl less) = let same : k ≡ m = omega arith in ap (λ j. x * 2 ^ j % 2 ^ n) same
    by (inr more) = let same : k ≡ n = omega arith in ap (λ j. x * 2 ^ j % 2 ^ n) same ∙ sym (up_past x n n (omega arith)) ∙ up_past x n m more

-- the low bits of a word with others before them
number_of_low : (all : List Bool) (k n : ℕ) → length all ≡ k + n → number_of (drop k all) ≡ number_of all % 2 ^ n
number_of_low all k n count =
    let low = drop k all in
    let width : length low ≡ n = length-drop k all ∙ (omega arith) in
    let whole : number_of all ≡ number_of (take k all) * 2 ^ length low + number_of low =
    ap number_of (sym (take-append-drop k all)) ∙ number_of-append (take k all) low in
    sym (ap (λ j. number_of all % 2 ^ j) (sym width) ∙ ap (λ v. v % 2 ^ length low) whole
    ∙ mod_low (number_of (take k all)) (length low) (number_of low) (number_of_lt low))

-- made bits of a word's own number
own_bits : (x : List Bool) (n : ℕ) → length x ≡ n → bits_of n (number_of x) ≡ x
own_bits x n count = ap (λ k. bits_of k (number_of x)) (sym count) ∙ bits_of-number_of x

pub moved_up_word : (x : List Bool) (k m : ℕ) → k ≡ min m (length x)
    → take (length x) (drop k (x ++ replicate k false)) ≡ word_of (length x) (pos (number_of x) *ℤ pos (2 ^ m))
moved_up_word x k m capped =
    let n = length x in
    let all = x ++ replicate k false in
    let tail : length (replicate k false) ≡ k = length-replicate k false in
    let count : length all ≡ k + n = length-append x (replicate k false) ∙ (omega arith) in
    let low = drop k all in
    let width : length low ≡ n = length-drop k all ∙ (omega arith) in
    let whole : number_of all ≡ number_of x * 2 ^ k =
    number_of-append x (replicate k false) ∙ ap (λ j. number_of x * 2 ^ j + number_of (replicate k false)) tail
    ∙ (omega (arith, number_of_zeros k)) in
    let number : number_of low ≡ number_of x * 2 ^ m % 2 ^ n % 2 ^ n =
    number_of_low all k n count ∙ ap (λ v. v % 2 ^ n) whole ∙ capped_product (number_of x) n m k capped
    ∙ sym (mod-mod (number_of x * 2 ^ m) (2 ^ n)) in
    take_all n low (omega arith) ∙ sym (own_bits low n width)
    ∙ up_bits n n (number_of x) m (number_of low) (omega arith) number
    ∙ ap (λ bits. word_of n (pos (number_of bits) *ℤ pos (2 ^ m))) (bits_of-number_of x)

-- the number of the upper bits of a word after equal ones
number_of_upper : (x : List Bool) (k : ℕ) (above : Bool)
    → number_of (take (length x) (replicate k above ++ x))
    ≡ (number_of (replicate k above) * 2 ^ length x + number_of x) / 2 ^ k % 2 ^ length x
number_of_upper x k above =
    let all = replicate k above ++ x in
    let count : 0 + length x + k ≡ length all = omega (arith, length-append (replicate k above) x, length-replicate k above) in
    number_of_part all 0 (length x) k count ∙ ap (λ v. v / 2 ^ k % 2 ^ length x) (number_of-append (replicate k above) x)

upper_width : (x : List Bool) (k : ℕ) (above : Bool) → length (take (length x) (replicate k above ++ x)) ≡ length x
upper_width x k above =
    length-take-le (length x) (replicate k above ++ x) (omega (arith, length-append (replicate k above) x))

pub moved_down_word : (x : List Bool) (k m : ℕ) → k ≡ min m (length x)
    → take (length x) (replicate k false ++ x) ≡ word_of (length x) (int_div_euclid (pos (number_of x)) (pos (2 ^ m)))
moved_down_word x k m capped =
    let n = length x in
    let high = take n (replicate k false ++ x) in
    let plain : number_of (replicate k false) * 2 ^ n + number_of x ≡ number_of x =
    ap (λ v. v * 2 ^ n + number_of x) (number_of_zeros k) ∙ (omega arith) in
    let below = number_of_lt x in
    let same = capped_quotient (number_of x) n m k below capped in
    let less : number_of x / 2 ^ m < 2 ^ n = omega (arith, div-le_self (number_of x) (2 ^ m)) in
    let number : number_of high ≡ number_of x / 2 ^ m =
    number_of_upper x k false ∙ ap (λ v. v / 2 ^ k % 2 ^ n) plain ∙ ap (λ v. v % 2 ^ n) same ∙ mod-eq_of_lt less in
    sym (own_bits high n (upper_width x k false)) ∙ down_bits n (number_of x) m (number_of high) below number
    ∙ ap (λ bits. word_of n (int_div_euclid (pos (number_of bits)) (pos (2 ^ m)))) (bits_of-number_of x)

-- ones before the complement of a number, moved down
complement_quotient : (n k q x ones : ℕ) → ones + 1 ≡ 2 ^ k → x + q + 1 ≡ 2 ^ n → (ones * 2 ^ n + x) / 2 ^ k + q / 2 ^ k + 1 ≡ 2 ^ n
complement_quotient n k q x ones is sum =
    let p = 2 ^ k in
    let f = q / p in
    let r = q % p in
    let some : 0 < p = pow_pos k in
    let small : r < p = mod_below q p some in
    let split : f * p + r ≡ q = div-add-mod' q p in
    let le : f ≤ q = div-le_self q p in
    let high = 2 ^ n - 1 - f in
    let fits : high + f + 1 ≡ 2 ^ n = omega arith in
    let wide : (high + f + 1) * p ≡ 2 ^ n * p = ap (λ v. v * p) fits in
    let ones_wide : (ones + 1) * 2 ^ n ≡ p * 2 ^ n = ap (λ v. v * 2 ^ n) is in
    let shape : ones * 2 ^ n + x ≡ high * p + (p - 1 - r) = omega arith in
    let quotient : (ones * 2 ^ n + x) / p ≡ high = ap (λ v. v / p) shape ∙ shr_high high k (p - 1 - r) (omega arith) in
    omega arith

pub moved_down_signed : (x : List Bool) (k m : ℕ) (sign : Bool) → k ≡ min m (length x) → sign ≡ get_or x 0 false
    → take (length x) (replicate k sign ++ x) ≡ word_of (length x) (int_div_euclid (signed x) (pos (2 ^ m)))
moved_down_signed x k m false capped is =
    moved_down_word x k m capped ∙ ap (λ z. word_of (length x) (int_div_euclid z (pos (2 ^ m)))) (sym (positive_is x (sym is)))
moved_down_signed x k m true capped is =
    let n = length x in
    let high = take n (replicate k true ++ x) in
    let below = number_of_lt x in
    let q = 2 ^ n - 1 - number_of x in
    let sum : number_of x + q + 1 ≡ 2 ^ n = omega arith in
    let whole = complement_quotient n k q (number_of x) (number_of (replicate k true)) (number_of_ones k) sum in
    let same = capped_quotient q n m k (omega arith) capped in
    let less : (number_of (replicate k true) * 2 ^ n + number_of x) / 2 ^ k < 2 ^ n = omega arith in
    let number : number_of high + q / 2 ^ m + 1 ≡ 2 ^ n =
    omega (arith, number_of_upper x k true ∙ mod-eq_of_lt less) in
    let alike : Alike (2 ^ n) (pos (number_of high)) (negsuc (q / 2 ^ m)) = record { over = 0; under = 1; is = omega arith } in
    let small : q < 2 ^ n = omega arith in
    let integer = negative_is x n (omega arith) (sym is) ∙ ap negsuc (mod-eq_of_lt small) in
    sym (own_bits high n (upper_width x k true)) ∙ word_of_alike n n (number_of high) (negsuc (q / 2 ^ m)) (omega arith) alike
    ∙ ap (λ z. word_of n (int_div_euclid z (pos (2 ^ m)))) (sym integer)
