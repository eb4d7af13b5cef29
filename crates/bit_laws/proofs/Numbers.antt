-- Words by their numbers.
use Rattle.std.proofs.Common.{◌≡◌, ℕ, ◌+◌, ◌*◌, ◌%◌, ◌^◌, ◌<◌, ◌≤◌, Bool, true, false, not, List, [], ◌∷◌, length, map, refl, sym, ap, ◌∙◌, arith, if◌then◌else◌, inl, inr, ◌⊎◌, eqb, ltb}
use Rattle.std.proofs.Math.Nat.{pow-suc, mod-eq_of_lt}
use Rattle.std.proofs.lemmas.Bool.{eq-eqb, le-ltb, lt-ltb, ne_eqb, cases_eq, cases_lt}
use Rattle.std.proofs.lemmas.List.{length-map}
use Rattle.std.proofs.lemmas.Nat.{mod_low}
use Rattle.chw_bits.specs.Bits.{bits_of, number_of}
use Rattle.chw_bits.specs.Integers.{word_of}
use Rattle.chw_bits.proofs.Numbers.{length-bits_of}
use Rattle.chw_bits.proofs.RoundTrips.{number_of-bits_of, same_bits}
use lib.IntN.{pos}
use Rattle.chw_bits.proofs.Residues.{word_of_number}

-- the number of one bit
abbrev pub weight : Bool → ℕ → ℕ
weight x n = if x then n else 0

-- bits with the number that a width keeps of another one
pub bits_are : (bits : List Bool) (width n : ℕ) → length bits ≡ width → number_of bits ≡ n % 2 ^ width → bits ≡ bits_of width n
bits_are bits width n l e =
    same_bits bits (bits_of width n) (l ∙ sym (length-bits_of width n)) (e ∙ sym (number_of-bits_of width n))

-- the same as the word of an integer
pub word_is : (bits : List Bool) (width n : ℕ) → length bits ≡ width → number_of bits ≡ n % 2 ^ width → bits ≡ word_of width (pos n)
word_is bits width n l e = bits_are bits width n l e ∙ word_of_number width n

-- what is left of a number without one bit above the width
pub low_number : (s m p : ℕ) (width : ℕ) (top : Bool) → s < 2 ^ width → p ≡ 2 ^ width → s + weight top p ≡ m → s ≡ m % 2 ^ width
low_number s m p width true below power e =
    let whole : 1 * 2 ^ width + s ≡ m = omega arith in
    sym (mod_low 1 width s below) ∙ ap (λ n. n % 2 ^ width) whole
low_number s m p width false below power e =
    let whole : s ≡ m = omega arith in
    sym (mod-eq_of_lt below) ∙ ap (λ n. n % 2 ^ width) whole

-- lists of one length have one weight before them
pub same_power : (xs ys : List Bool) → length xs ≡ length ys → 2 ^ length xs ≡ 2 ^ length ys
same_power xs ys e = ap (λ n. 2 ^ n) e

-- the opposite bits fill up the whole
pub number_of_opposite : (bits : List Bool) → number_of (map not bits) + number_of bits + 1 ≡ 2 ^ length bits
number_of_opposite [] = refl
number_of_opposite (true ∷ bits) = omega (arith, number_of_opposite bits, pow-suc 2 (length bits))
number_of_opposite (false ∷ bits) =
    omega (arith, number_of_opposite bits, pow-suc 2 (length bits), same_power (map not bits) bits (length-map bits not))

-- tests that hold alike
pub eqb_alike : (a b c d : ℕ) → (a ≡ b → c ≡ d) → (c ≡ d → a ≡ b) → eqb a b ≡ eqb c d
eqb_alike a b c d f g = by_case (cases_eq a b)
  where
    by_case : (a ≡ b) ⊎ (a ≡ b → ⊥) → eqb a b ≡ eqb c d
    by_case (inl e) = eq-eqb a b e ∙ sym (eq-eqb c d (f e))
    by_case (inr n) = ne_eqb a b n ∙ sym (ne_eqb c d (λ e. n (g e)))

pub ltb_alike : (a b c d : ℕ) → (a < b → c < d) → (c < d → a < b) → ltb a b ≡ ltb c d
ltb_alike a b c d f g = by_case (cases_lt a b) (cases_lt c d)
  where
    by_case : (a < b) ⊎ (b ≤ a) → (c < d) ⊎ (d ≤ c) → ltb a b ≡ ltb c d
    by_case (inl l) (inl m) = lt-ltb a b l ∙ sym (lt-ltb c d m)
    by_case (inl l) (inr m) = absurd (let n = f l in omega arith)
    by_case (inr l) (inl m) = absurd (let n = g m in omega arith)
    by_case (inr l) (inr m) = le-ltb a b l ∙ sym (le-ltb c d m)
