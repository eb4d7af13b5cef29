-- Lists with a value for each place.
use Rattle.std.proofs.Common.{◌≡◌, ℕ, suc, zero, ◌+◌, ◌-◌, ◌%◌, ◌^◌, ◌<◌, get_or, Bool, List, [], ◌∷◌, ◌++◌, length, ap, sym, ◌∙◌, arith}
use Rattle.std.specs.Prelude.{reverse}
use Rattle.std.specs.List.{range_with_len, flat_map, fold}
use Rattle.std.proofs.lemmas.List.{get_or-reverse, length-reverse, append-nil, append_assoc}
use Rattle.std.proofs.lemmas.List.FromFn.{map-range_with_len_more, length-range_with_len, get_or-range_with_len, fill_by_all}
use Rattle.std.proofs.lemmas.List.Concat.{flat_map-append}
use Rattle.std.proofs.lemmas.List.Sums.{fold-append}
use Rattle.chw_bits.specs.Bits.{bits_of, number_of}
use Rattle.chw_terms.specs.Unrolled.{each}

-- one more value
pub each_more : {X : Type 0} (f : ℕ → X) → (n : ℕ) → each (n + 1) f ≡ each n f ++ f n ∷ []
each_more f n = map-range_with_len_more f 0 n n (omega arith)

-- the same behind others
pub each_after : {X : Type 0} (f : ℕ → X) (xs : List X) → (n : ℕ) → xs ++ each (n + 1) f ≡ (xs ++ each n f) ++ f n ∷ []
each_after f xs n = ap (λ ys. xs ++ ys) (each_more f n) ∙ sym (append_assoc xs (each n f) (f n ∷ []))

range_more : (a n j : ℕ) → a + n ≡ j → range_with_len a (n + 1) ≡ range_with_len a n ++ j ∷ []
range_more a zero j e = let f : a ≡ j = omega arith in ap (λ x. x ∷ []) f
range_more a (suc n) j e =
    let f : suc n + 1 ≡ suc (n + 1) = omega arith in
    ap (range_with_len a) f ∙ ap (λ xs. a ∷ xs) (range_more (a + 1) n j (omega arith))

-- one more step of a fold
pub fold_more : {X : Type 0} (f : X → ℕ → X) (a : X) → (n : ℕ) → fold f a (range_with_len 0 (n + 1)) ≡ f (fold f a (range_with_len 0 n)) n
fold_more f a n = ap (fold f a) (range_more 0 n n (omega arith)) ∙ fold-append f a (range_with_len 0 n) (n ∷ [])

-- one more step of a fold over other numbers
pub fold_each_more : {X : Type 0} (f : X → ℕ → X) (a : X) (g : ℕ → ℕ) → (n : ℕ) → fold f a (each (n + 1) g) ≡ f (fold f a (each n g)) (g n)
fold_each_more f a g n = ap (fold f a) (each_more g n) ∙ fold-append f a (each n g) (g n ∷ [])

-- the values of one more number
pub flat_more : {X : Type 0} (f : ℕ → List X) → (n : ℕ) → flat_map f (range_with_len 0 (n + 1)) ≡ flat_map f (range_with_len 0 n) ++ f n
flat_more f n =
    ap (flat_map f) (range_more 0 n n (omega arith)) ∙ flat_map-append f (range_with_len 0 n) (n ∷ []) ∙ ap (λ xs. flat_map f (range_with_len 0 n) ++ xs) (append-nil (f n))

-- the same behind others
pub flat_after : {X : Type 0} (f : ℕ → List X) (xs : List X) → (n : ℕ) → xs ++ flat_map f (range_with_len 0 (n + 1)) ≡ (xs ++ flat_map f (range_with_len 0 n)) ++ f n
flat_after f xs n = ap (λ ys. xs ++ ys) (flat_more f n) ∙ sym (append_assoc xs (flat_map f (range_with_len 0 n)) (f n))

-- the numbers below n, the last one first
pub from_the_last : (n : ℕ) → each n (λ j. n - 1 - j) ≡ reverse (range_with_len 0 n)
from_the_last n =
    let count = length-range_with_len 0 n in
    sym (fill_by_all (λ j. n - 1 - j) (reverse (range_with_len 0 n)) n 0 (length-reverse (range_with_len 0 n) ∙ count) (λ k below.
    let within : k < length (range_with_len 0 n) = omega (arith, count, below) in
    let place : length (range_with_len 0 n) - 1 - k ≡ n - 1 - k = ap (λ l. l - 1 - k) count in
    let small : n - 1 - k < n = omega (arith, below) in
    let zero_more : 0 + (n - 1 - k) ≡ n - 1 - k = omega arith in
    get_or-reverse (range_with_len 0 n) k 0 within
    ∙ ap (λ i. get_or (range_with_len 0 n) i 0) place
    ∙ get_or-range_with_len 0 n (n - 1 - k) 0 small
    ∙ zero_more))

-- the lowest bits of what they hold
pub bits_of_rest : ((width n : ℕ) → length (bits_of width n) ≡ width) → ((width n : ℕ) → number_of (bits_of width n) ≡ n % 2 ^ width) → ((bits : List Bool) → bits_of (length bits) (number_of bits) ≡ bits) → (k j : ℕ) → bits_of k (j % 2 ^ k) ≡ bits_of k j
bits_of_rest count kept same k j =
    ap (bits_of k) (sym (kept k j)) ∙ ap (λ w. bits_of w (number_of (bits_of k j))) (sym (count k j)) ∙ same (bits_of k j)
