-- Results that are exact: a word keeps each integer that its width has.
use Rattle.std.proofs.Common.{◌≡◌, ℕ, suc, ◌+◌, ◌-◌, ◌*◌, ◌/◌, ◌%◌, ◌^◌, ◌<◌, ◌≤◌, Bool, true, false, List, [], ◌∷◌, length, sym, ap, ◌∙◌, arith}
use lib.IntN.{ℤ, pos, negsuc, ◌+ℤ◌, ◌*ℤ◌}
use borrow.Author.Differences.{up, down, same_in, sum_is_lem, neg_is}
use Rattle.std.proofs.Math.Nat.{pow-suc, pow-le-pow_right, mul-le-mul, mul-le-mul_left, mul-lt-mul_of_pos_right, mod-mod, mod-eq_of_lt}
use Rattle.std.proofs.lemmas.Nat.{pow_pos, pow-add, same_from_place}
use Rattle.std.proofs.lemmas.Int.{unsigned_abs-mul}
use Rattle.std.specs.Int.RustNames.{unsigned_abs}
use Rattle.chw_bits.specs.Bits.{number_of, bits_of, cut_of}
use Rattle.chw_bits.proofs.Numbers.{length-bits_of, lt-pow, number_of_lt}
use Rattle.chw_bits.proofs.RoundTrips.{number_of-bits_of, same_bits, length-cut_of, number_of-cut_of}
use Rattle.chw_types.specs.declared.kind.Scalar.{Scalar}
use Rattle.chw_types.specs.declared.kind.Scalar.TheVariants.{U, S, B}
use Rattle.prim_bits.specs.Results.{sum_of, product_of}
use Rattle.chw_bits.specs.Integers.{signed, residue_of, word_of}
use Rattle.prim_bits.specs.Words.{integer_of}
use Rattle.chw_bits.proofs.Residues.{Alike, alike_along, alike_low, alike_residue}
use Rattle.chw_bits.proofs.Signs.{alike_at}

-- from minus half a whole on, and below half of it
pub record Within (whole : ℕ) (z : ℤ) : Type 0 where
  pub below : 2 * up z < 2 * down z + whole
  pub above : 2 * down z ≤ 2 * up z + whole

-- the same for the two parts of an integer, one of which is 0
parts : (whole : ℕ) (z : ℤ) → Within whole z → (2 * up z < whole) × (2 * down z ≤ whole)
parts whole (pos n) f = let p = f.below in omega arith
parts whole (negsuc n) f = let p = f.above in omega arith

magnitude : (whole : ℕ) (z : ℤ) → Within whole z → 2 * unsigned_abs z ≤ whole
magnitude whole (pos n) f = let p = f.below in omega arith
magnitude whole (negsuc n) f = let p = f.above in omega arith

-- an integer whose measure is at most a quarter
within_quarter : (whole : ℕ) (z : ℤ) → 0 < whole → 4 * unsigned_abs z ≤ whole → Within whole z
within_quarter whole (pos n) some small = record { below = omega arith; above = omega arith }
within_quarter whole (negsuc n) some small = record { below = omega arith; above = omega arith }

signed_within : (bits : List Bool) → Within (2 ^ length bits) (signed bits)
signed_within [] = record { below = omega arith; above = omega arith }
signed_within (true ∷ bits) =
    let twice = pow-suc 2 (length bits) in
    let small = number_of_lt bits in
    record { below = omega (arith, sum_is_lem, neg_is); above = omega (arith, sum_is_lem, neg_is) }
signed_within (false ∷ bits) =
    let twice = pow-suc 2 (length bits) in
    let small = number_of_lt bits in
    record { below = omega (arith, sum_is_lem, neg_is); above = omega (arith, sum_is_lem, neg_is) }

-- a word as an integer is alike the integer that it was made of
word_alike : (w : ℕ) (z : ℤ) → Alike (2 ^ w) (signed (word_of w z)) z
word_alike w z =
    let n = residue_of w z in
    let bits = bits_of w n in
    let le : w ≤ length bits = omega (arith, length-bits_of w n) in
    let kept : Alike (2 ^ w) (pos (number_of bits)) (pos n) = rw (number_of-bits_of w n) (alike_low w n) in
    alike_along (2 ^ w) (signed bits) (pos (number_of bits)) z (alike_at w bits le) (alike_along (2 ^ w) (pos (number_of bits)) (pos n) z kept (alike_residue w z))

-- integers that are alike and both within the whole are one
same_within : (m : ℕ) (a b : ℤ) → Alike m a b → Within m a → Within m b → a ≡ b
same_within m a b p f g =
    let a-below = (parts m a f).0 in
    let a-above = (parts m a f).1 in
    let b-below = (parts m b g).0 in
    let b-above = (parts m b g).1 in
    let e = p.is in
    let left : up a + down b < m = omega arith in
    let right : up b + down a < m = omega arith in
    let line : p.over * m + (up a + down b) ≡ p.under * m + (up b + down a) = omega arith in
    same_in a b (same_from_place p.over (up a + down b) p.under (up b + down a) m left right line).1

kept_signed : (w : ℕ) (z : ℤ) → Within (2 ^ w) z → signed (word_of w z) ≡ z
kept_signed w z f =
    let bits = word_of w z in
    let whole : 2 ^ length bits ≡ 2 ^ w = ap (λ k. 2 ^ k) (length-bits_of w (residue_of w z)) in
    let g = signed_within bits in
    let below = g.below in
    let above = g.above in
    same_within (2 ^ w) (signed bits) z (word_alike w z) (record { below = omega arith; above = omega arith }) f

kept_number : (w n : ℕ) → n < 2 ^ w → number_of (word_of w (pos n)) ≡ n
kept_number w n below = number_of-bits_of w (n % 2 ^ w) ∙ mod-mod n (2 ^ w) ∙ mod-eq_of_lt below

one_more : (w : ℕ) → 2 ^ (w + 1) ≡ 2 ^ w * 2
one_more w = let next : w + 1 ≡ suc w = omega arith in ap (λ k. 2 ^ k) next ∙ pow-suc 2 w

number_sum : (a b : List Bool) → length a ≡ length b → number_of (word_of (length a + 1) (pos (number_of a + number_of b))) ≡ number_of a + number_of b
number_sum a b e =
    let whole = one_more (length a) in
    let same : 2 ^ length a ≡ 2 ^ length b = ap (λ k. 2 ^ k) e in
    let small = number_of_lt a in
    let smaller = number_of_lt b in
    kept_number (length a + 1) (number_of a + number_of b) (omega arith)

-- one more bit holds a sum
pub exact_sum : (x : Scalar) (a b : List Bool) → length a ≡ length b → integer_of x (sum_of x (length a + 1) a b) ≡ integer_of x a +ℤ integer_of x b
exact_sum U a b e = ap pos (number_sum a b e)
exact_sum B a b e = ap pos (number_sum a b e)
exact_sum S a b e =
    let whole = one_more (length a) in
    let same : 2 ^ length a ≡ 2 ^ length b = ap (λ k. 2 ^ k) e in
    let f = signed_within a in
    let g = signed_within b in
    let f-below = f.below in
    let f-above = f.above in
    let g-below = g.below in
    let g-above = g.above in
    kept_signed (length a + 1) (signed a +ℤ signed b) (record { below = omega (arith, sum_is_lem); above = omega (arith, sum_is_lem) })

below_product : (m n p q : ℕ) → m < p → n < q → m * n < p * q
below_product m n p q small smaller =
    let some : 0 < q = omega arith in
    let most : n ≤ q = omega arith in
    let first : m * n ≤ m * q = mul-le-mul_left m most in
    let second : m * q < p * q = mul-lt-mul_of_pos_right small some in
    omega arith

number_product : (a b : List Bool) → number_of (word_of (length a + length b) (pos (number_of a * number_of b))) ≡ number_of a * number_of b
number_product a b =
    let whole = pow-add 2 (length a) (length b) in
    let small = below_product (number_of a) (number_of b) (2 ^ length a) (2 ^ length b) (number_of_lt a) (number_of_lt b) in
    kept_number (length a + length b) (number_of a * number_of b) (omega arith)

-- the widths of two words together hold their product
pub exact_product : (x : Scalar) (a b : List Bool) → integer_of x (product_of x (length a + length b) a b) ≡ integer_of x a *ℤ integer_of x b
exact_product U a b = ap pos (number_product a b)
exact_product B a b = ap pos (number_product a b)
exact_product S a b =
    let whole = pow-add 2 (length a) (length b) in
    let first = magnitude (2 ^ length a) (signed a) (signed_within a) in
    let second = magnitude (2 ^ length b) (signed b) (signed_within b) in
    let both : 2 * unsigned_abs (signed a) * (2 * unsigned_abs (signed b)) ≤ 2 ^ length a * 2 ^ length b = mul-le-mul first second in
    let quarter : 2 * unsigned_abs (signed a) * (2 * unsigned_abs (signed b)) ≡ 4 * (unsigned_abs (signed a) * unsigned_abs (signed b)) = omega arith in
    let measure = unsigned_abs-mul (signed a) (signed b) in
    kept_signed (length a + length b) (signed a *ℤ signed b) (within_quarter (2 ^ (length a + length b)) (signed a *ℤ signed b) (pow_pos (length a + length b)) (omega arith))

-- a wider word holds what a word means
pub exact_extension : (x : Scalar) (a : List Bool) (more : ℕ) → integer_of x (word_of (length a + more) (integer_of x a)) ≡ integer_of x a
exact_extension U a more = ap pos (kept_number (length a + more) (number_of a) (lt-pow (number_of a) (length a) (length a + more) (number_of_lt a) (omega arith)))
exact_extension B a more = ap pos (kept_number (length a + more) (number_of a) (lt-pow (number_of a) (length a) (length a + more) (number_of_lt a) (omega arith)))
exact_extension S a more =
    let wider : 2 ^ length a ≤ 2 ^ (length a + more) = pow-le-pow_right {n = 2} (omega arith) {i = length a} {j = length a + more} (omega arith) in
    let f = signed_within a in
    let below = f.below in
    let above = f.above in
    kept_signed (length a + more) (signed a) (record { below = omega arith; above = omega arith })

-- the lowest bits of a quotient are those that stand in the middle
pub middle_is_cut : (low count : ℕ) (bits : List Bool) → 0 < count → low + count ≤ length bits → bits_of count (number_of bits / 2 ^ low) ≡ cut_of (low + count - 1) low bits
middle_is_cut low count bits some fits =
    let high = low + count - 1 in
    let order : low ≤ high = omega arith in
    let inside : high < length bits = omega arith in
    let many : high + 1 - low ≡ count = omega arith in
    let long : length (cut_of high low bits) ≡ count = length-cut_of bits high low order inside ∙ many in
    let number : number_of (cut_of high low bits) ≡ number_of bits / 2 ^ low % 2 ^ count =
    number_of-cut_of bits high low order inside ∙ ap (λ k. number_of bits / 2 ^ low % 2 ^ k) many in
    same_bits (bits_of count (number_of bits / 2 ^ low)) (cut_of high low bits)
    (length-bits_of count (number_of bits / 2 ^ low) ∙ sym long)
    (number_of-bits_of count (number_of bits / 2 ^ low) ∙ sym number)
