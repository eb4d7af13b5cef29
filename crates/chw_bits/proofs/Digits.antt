-- Lemmas on the hexadecimal digits of numbers.
use Rattle.std.proofs.Common.{◌≡◌, ℕ, zero, suc, ◌+◌, ◌-◌, ◌*◌, ◌/◌, ◌%◌, ◌^◌, ◌<◌, ◌≤◌, ⊎_elim, Bool, List, [], ◌∷◌, ◌++◌, length, take, drop, refl, sym, ap, ◌∙◌, arith, append_assoc}
use Rattle.std.proofs.Math.Nat.{pow-suc, mod-eq_of_lt}
use Rattle.std.proofs.lemmas.Nat.{pow-add, shr_below}
use Rattle.std.proofs.lemmas.Bool.{cases_lt}
use Rattle.chw_bits.specs.Bits.{number_of}
use Rattle.chw_bits.specs.Hex.{hex_digit, hex_of}
use Rattle.chw_bits.proofs.Numbers.{number_of_lt, number_of_part, lt-pow}

-- a power of 16 is one of 2
pub pow_of_16 : (k : ℕ) → 16 ^ k ≡ 2 ^ (4 * k)
pow_of_16 zero = refl
pow_of_16 (suc k) =
    let e : 4 * suc k ≡ 4 * k + 4 = omega arith in
    pow-suc 16 k ∙ ap (λ n. n * 16) (pow_of_16 k) ∙ sym (ap (λ n. 2 ^ n) e ∙ pow-add 2 (4 * k) 4)

-- the bits of one digit, which are fewer than four at the front
pub number_of_digit : (bits : List Bool) (end place from : ℕ) → 4 * place + end ≡ length bits → from ≡ end - 4 → number_of (take (end - from) (drop from bits)) ≡ number_of bits / 16 ^ place % 16
number_of_digit bits end place from e f =
    let n = number_of bits in
    let part = number_of_part bits from (end - from) (4 * place) (omega arith) in
    let same = ap (λ p. n / p % 16) (sym (pow_of_16 place)) in
    ⊎_elim
    (λ (below : end < 4).
    let width : end - from ≡ end = omega arith in
    let power : length bits ≡ end + 4 * place = omega arith in
    let bound : n < 2 ^ (end + 4 * place) = lt-pow n (length bits) (end + 4 * place) (number_of_lt bits) (omega arith) in
    let small : n / 2 ^ (4 * place) < 2 ^ end = shr_below n end (4 * place) bound in
    let small' : n / 2 ^ (4 * place) < 16 = lt-pow (n / 2 ^ (4 * place)) end 4 small (omega arith) in
    part ∙ ap (λ w. n / 2 ^ (4 * place) % 2 ^ w) width ∙ mod-eq_of_lt small ∙ sym (mod-eq_of_lt small') ∙ same)
    (λ (above : 4 ≤ end).
    let width : end - from ≡ 4 = omega arith in
    part ∙ ap (λ w. n / 2 ^ (4 * place) % 2 ^ w) width ∙ same)
    (cases_lt end 4)

-- one more digit, the most significant of those that are left
pub digits_left : (text all : List ℕ) (count i n : ℕ) → i < count → text ++ hex_of (count - i) n ≡ all → (text ++ hex_digit (n / 16 ^ (count - 1 - i) % 16) ∷ []) ++ hex_of (count - (i + 1)) n ≡ all
digits_left text all count i n below e =
    let place = count - 1 - i in
    let a : count - (i + 1) ≡ place = omega arith in
    let b : suc place ≡ count - i = omega arith in
    ap (λ k. (text ++ hex_digit (n / 16 ^ place % 16) ∷ []) ++ hex_of k n) a
    ∙ append_assoc text (hex_digit (n / 16 ^ place % 16) ∷ []) (hex_of place n)
    ∙ ap (λ k. text ++ hex_of k n) b
    ∙ e
