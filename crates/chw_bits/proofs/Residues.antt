-- Integers that are alike modulo a power of 2, and the bits that they have in common.
use Rattle.std.proofs.Common.{◌≡◌, ℕ, zero, suc, ◌+◌, ◌-◌, ◌*◌, ◌/◌, ◌%◌, ◌^◌, ◌<◌, ◌≤◌, ◌∷◌, eqb, refl, sym, ap, ◌∙◌, arith}
use lib.IntN.{ℤ, pos, negsuc, ◌+ℤ◌, ◌-ℤ◌, ◌*ℤ◌}
use borrow.Author.Differences.{up, down, same_in, sum_is_lem, neg_is, product_is}
use Rattle.std.proofs.Math.Nat.{mul-le-mul_left, mod-mod}
use Rattle.std.proofs.lemmas.Nat.{pow_pos, pow-add, mod-pow-add, mod_below, div-add-mod', same_from_place}
use Rattle.std.proofs.lemmas.Int.{int_rem_euclid_is}
use Rattle.std.specs.Int.RustNames.{unsigned_abs}
use Rattle.chw_bits.specs.Bits.{bit_of, bits_of}
use Rattle.chw_bits.specs.Integers.{residue_of, word_of}

-- two integers that differ by a multiple of m: an integer z is read as `up z - down z`
pub record Alike (m : ℕ) (a b : ℤ) : Type 0 where
  pub over : ℕ
  pub under : ℕ
  pub is : up a + down b + over * m ≡ up b + down a + under * m

pub alike_same : (m : ℕ) (a : ℤ) → Alike m a a
alike_same m a = record { over = 0; under = 0; is = omega arith }

pub alike_turned : (m : ℕ) (a b : ℤ) → Alike m a b → Alike m b a
alike_turned m a b p = let e = p.is in record { over = p.under; under = p.over; is = omega arith }

pub alike_along : (m : ℕ) (a b c : ℤ) → Alike m a b → Alike m b c → Alike m a c
alike_along m a b c p q = let e = p.is in let f = q.is in record { over = p.over + q.over; under = p.under + q.under; is = omega arith }

pub alike_sum : (m : ℕ) (a b c d : ℤ) → Alike m a b → Alike m c d → Alike m (a +ℤ c) (b +ℤ d)
alike_sum m a b c d p q =
    let e = p.is in
    let f = q.is in
    record { over = p.over + q.over; under = p.under + q.under; is = omega (arith, sum_is_lem) }

pub alike_difference : (m : ℕ) (a b c d : ℤ) → Alike m a b → Alike m c d → Alike m (a -ℤ c) (b -ℤ d)
alike_difference m a b c d p q =
    let e = p.is in
    let f = q.is in
    record { over = p.over + q.under; under = p.under + q.over; is = omega (arith, sum_is_lem, neg_is) }

alike_left : (m : ℕ) (a b c : ℤ) → Alike m a b → Alike m (a *ℤ c) (b *ℤ c)
alike_left m a b c p =
    let above = ap (λ x. x * up c) p.is in
    let below = ap (λ x. x * down c) p.is in
    record { over = p.over * up c + p.under * down c; under = p.under * up c + p.over * down c; is = omega (arith, product_is) }

alike_right : (m : ℕ) (a c d : ℤ) → Alike m c d → Alike m (a *ℤ c) (a *ℤ d)
alike_right m a c d p =
    let above = ap (λ x. x * up a) p.is in
    let below = ap (λ x. x * down a) p.is in
    record { over = p.over * up a + p.under * down a; under = p.under * up a + p.over * down a; is = omega (arith, product_is) }

pub alike_product : (m : ℕ) (a b c d : ℤ) → Alike m a b → Alike m c d → Alike m (a *ℤ c) (b *ℤ d)
alike_product m a b c d p q = alike_along m (a *ℤ c) (b *ℤ c) (b *ℤ d) (alike_left m a b c p) (alike_right m b c d q)

-- what is left of an integer is alike it
pub alike_residue : (w : ℕ) (z : ℤ) → Alike (2 ^ w) (pos (residue_of w z)) z
alike_residue w (pos a) = record { over = a / 2 ^ w; under = 0; is = omega (arith, div-add-mod' a (2 ^ w)) }
alike_residue w (negsuc a) =
    let m = 2 ^ w in
    let small : a % m < m = mod_below a m (pow_pos w) in
    record { over = 0; under = a / m + 1; is = omega (arith, div-add-mod' a m) }

pub alike_low : (w n : ℕ) → Alike (2 ^ w) (pos (n % 2 ^ w)) (pos n)
alike_low w n = alike_residue w (pos n)

-- alike integers have one residue
pub same_residue : (w : ℕ) (a b : ℤ) → Alike (2 ^ w) a b → residue_of w a ≡ residue_of w b
same_residue w a b p =
    let m = 2 ^ w in
    let some : 0 < m = pow_pos w in
    let t = down a + down b in
    let far : t * 1 ≤ t * m = mul-le-mul_left t some in
    let n = up a + (p.over + t) * m - down a in
    let e = p.is in
    let from : (z : ℤ) (i : ℕ) → z +ℤ pos ((i + t) * m) ≡ pos n → residue_of w z ≡ n % m =
    λ z i h. ap unsigned_abs (int_rem_euclid_is z (pos m) m (i + t) n some refl h) in
    from a p.over (same_in _ _ (omega (arith, sum_is_lem))) ∙ sym (from b p.under (same_in _ _ (omega (arith, sum_is_lem))))

-- integers that are alike at a width are alike at each smaller one
pub alike_narrow : (w v : ℕ) (a b : ℤ) → w ≤ v → Alike (2 ^ v) a b → Alike (2 ^ w) a b
alike_narrow w v a b le p =
    let rest = v - w in
    let sum : v ≡ rest + w = omega arith in
    let power : 2 ^ v ≡ 2 ^ rest * 2 ^ w = ap (λ k. 2 ^ k) sum ∙ pow-add 2 rest w in
    let over = ap (λ k. p.over * k) power in
    let under = ap (λ k. p.under * k) power in
    let e = p.is in
    record { over = p.over * 2 ^ rest; under = p.under * 2 ^ rest; is = omega arith }

-- numbers that are the same up to a width have the same bits there
pub same_low_bits : (w n k : ℕ) → n % 2 ^ w ≡ k % 2 ^ w → bits_of w n ≡ bits_of w k
same_low_bits zero n k e = refl
same_low_bits (suc w) n k e =
    let one_more : suc w ≡ 1 + w = omega arith in
    let split : (i : ℕ) → i % 2 ^ suc w ≡ i / 2 ^ w % 2 * 2 ^ w + i % 2 ^ w = λ i. ap (λ j. i % 2 ^ j) one_more ∙ mod-pow-add i 1 w in
    let parts = same_from_place (n / 2 ^ w % 2) (n % 2 ^ w) (k / 2 ^ w % 2) (k % 2 ^ w) (2 ^ w) (mod_below n (2 ^ w) (pow_pos w)) (mod_below k (2 ^ w) (pow_pos w)) (sym (split n) ∙ e ∙ split k) in
    ap (λ bit. eqb bit 1 ∷ bits_of w n) parts.0 ∙ ap (λ bits. bit_of w k ∷ bits) (same_low_bits w n k parts.1)

-- the bits of a number that is alike an integer are the integer's
pub word_of_alike : (w v n : ℕ) (z : ℤ) → w ≤ v → Alike (2 ^ v) (pos n) z → bits_of w n ≡ word_of w z
word_of_alike w v n z le p =
    let left : n % 2 ^ w ≡ residue_of w z = same_residue w (pos n) z (alike_narrow w v (pos n) z le p) in
    same_low_bits w n (residue_of w z) (sym (mod-mod n (2 ^ w)) ∙ ap (λ k. k % 2 ^ w) left)

pub alike_from : (v m : ℕ) (z : ℤ) → m ≡ residue_of v z → Alike (2 ^ v) (pos m) z
alike_from v m z e = rw e (alike_residue v z)

-- a number is its own residue where it has no bit from the width up
pub word_of_number : (w n : ℕ) → bits_of w n ≡ word_of w (pos n)
word_of_number w n = same_low_bits w n (n % 2 ^ w) (sym (mod-mod n (2 ^ w)))
