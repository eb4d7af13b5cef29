-- Ranges of values, and numbers in two's complement.
use Rattle.std.proofs.Common.{◌≡◌, ℕ, suc, zero, ◌+◌, ◌-◌, ◌*◌, ◌%◌, ◌^◌, ◌<◌, ◌≤◌, true, false, cond, ltb, leb, Some, None, sym, ap, ◌∙◌, arith}
use Rattle.std.proofs.Math.Nat.{mod-eq_of_lt, pow-succ'}
use Rattle.std.proofs.Math.Pow.{pow_mono}
use Rattle.std.proofs.lemmas.Bool.{le-leb, lt-leb, le-ltb, lt-ltb}
use Rattle.chw_grammar.specs.declared.literal.Letter.TheVariants.{S}
use Rattle.chw_resolve.specs.Literals.{number_in}

-- two to a width is twice two to one less
pub doubled : (width : ℕ) → 0 < width → 2 ^ width ≡ 2 ^ (width - 1) + 2 ^ (width - 1)
doubled zero lt = absurd (omega arith)
doubled (suc width) lt =
    let same : width ≡ suc width - 1 = omega arith in
    let twice : 2 ^ suc width ≡ 2 * 2 ^ width = pow-succ' 2 width in
    let both : 2 * 2 ^ width ≡ 2 ^ width + 2 ^ width = omega arith in
    twice ∙ both ∙ ap (λ n. 2 ^ n + 2 ^ n) same

pub below_zero : (value width half : ℕ) → 0 < value → value ≤ half → 2 ^ width ≡ half + half → Some (half - value + half) ≡ number_in S true value width
below_zero value width half lt le at =
    let test : leb (2 * value) (2 ^ width) ≡ true = le-leb (2 * value) (2 ^ width) (omega arith) in
    let less : 2 ^ width - value < 2 ^ width = omega arith in
    let number : half - value + half ≡ 2 ^ width - value = omega arith in
    ap (λ (n : ℕ). Some n) (number ∙ sym (mod-eq_of_lt less))
    ∙ ap (λ b. cond b (Some ((2 ^ width - value) % 2 ^ width)) None) (sym test)

pub too_low : (value width half : ℕ) → half < value → 2 ^ width ≡ half + half → None ≡ number_in S true value width
too_low value width half lt at =
    let test : leb (2 * value) (2 ^ width) ≡ false = lt-leb (2 * value) (2 ^ width) (omega arith) in
    ap (λ b. cond b (Some ((2 ^ width - value) % 2 ^ width)) None) (sym test)

pub from_zero : (value width half : ℕ) → value < half → 2 ^ width ≡ half + half → Some value ≡ number_in S false value width
from_zero value width half lt at =
    let test : ltb (2 * value) (2 ^ width) ≡ true = lt-ltb (2 * value) (2 ^ width) (omega arith) in
    ap (λ b. cond b (Some value) None) (sym test)

pub too_high : (value width half : ℕ) → half ≤ value → 2 ^ width ≡ half + half → None ≡ number_in S false value width
too_high value width half le at =
    let test : ltb (2 * value) (2 ^ width) ≡ false = le-ltb (2 * value) (2 ^ width) (omega arith) in
    ap (λ b. cond b (Some value) None) (sym test)

-- half of two to a width that a scalar may have
pub half_at_most : (width half : ℕ) → width ≤ 128 → half ≡ 2 ^ (width - 1) → half ≤ 2 ^ 127
half_at_most width half le at = let most : 2 ^ (width - 1) ≤ 2 ^ 127 = pow_mono {i = width - 1} {j = 127} (omega arith) in omega arith

pub two_halves : (width half : ℕ) → 0 < width → half ≡ 2 ^ (width - 1) → 2 ^ width ≡ half + half
two_halves width half lt at = doubled width lt ∙ ap (λ h. h + h) (sym at)
