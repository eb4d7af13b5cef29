use Rattle.std.proofs.Common.{◌+◌, ◌-◌, ◌*◌, ◌%◌, ◌<◌, ◌^◌, ◌&&◌, ◌||◌, bit_and, bit_or, bit_xor, length, pos, ◌+ℤ◌, ◌-ℤ◌, ◌*ℤ◌, refl, sym, subst, arith}
use Rattle.std.proofs.lemmas.Nat.{and_le_l, or_lt, xor_lt}
use Rattle.chw_bits.specs.Bits.{number_of}
use Rattle.chw_bits.specs.Bitwise.{bit_by_bit, differ}
use Rattle.chw_bits.specs.Integers.{word_of}
use Rattle.chw_bits.proofs.Numbers.{lt-pow}
use Rattle.chw_bits.proofs.WordBits.{both_bits, differing_bits, either_bits}
use Rattle.chw_bits.proofs.WordResults.{difference_bits, product_bits, sum_bits}
use Rattle.net_sim.proofs.Made.{from_words}
use Rattle.net_sim.proofs.Masks.{masked, masked_below}
use Rattle.net_sim.proofs.small.small_of_two.Goals as goal

pub returns-in-Add : goal.returns-in-Add
returns-in-Add c =
    let x = c.args.left.now in
    let a = c.small-a.result in
    let b = c.small-b.result in
    let n = (a + b) % 2 ^ 64 in
    let same = rw c.in-Add.is at c.requires.suit in
    rw c.in-Add.is
    (from_words (λ k u v. word_of k (pos (number_of u) +ℤ pos (number_of v))) (length x) (bit_and n c.args.mask) a b x c.args.right.now refl same
    c.small-a.ensures.bits c.small-b.ensures.bits
    (sum_bits 64 (length x) a b (bit_and n c.args.mask) c.requires.left (masked n c.args.mask (length x) c.requires.mask))
    (masked_below n c.args.mask (length x) c.requires.mask))

pub returns-in-Sub : goal.returns-in-Sub
returns-in-Sub c =
    let x = c.args.left.now in
    let a = c.small-a.result in
    let b = c.small-b.result in
    let n = (a + (2 ^ 64 - b)) % 2 ^ 64 in
    let same = rw c.in-Sub.is at c.requires.suit in
    let fits = lt-pow b (length c.args.right.now) 64 c.small-b.ensures.below c.requires.right in
    rw c.in-Sub.is
    (from_words (λ k u v. word_of k (pos (number_of u) -ℤ pos (number_of v))) (length x) (bit_and n c.args.mask) a b x c.args.right.now refl same
    c.small-a.ensures.bits c.small-b.ensures.bits
    (difference_bits 64 (length x) a b (bit_and n c.args.mask) c.requires.left fits (masked n c.args.mask (length x) c.requires.mask))
    (masked_below n c.args.mask (length x) c.requires.mask))

pub returns-in-Mul : goal.returns-in-Mul
returns-in-Mul c =
    let x = c.args.left.now in
    let a = c.small-a.result in
    let b = c.small-b.result in
    let n = a * b % 2 ^ 64 in
    let same = rw c.in-Mul.is at c.requires.suit in
    rw c.in-Mul.is
    (from_words (λ k u v. word_of k (pos (number_of u) *ℤ pos (number_of v))) (length x) (bit_and n c.args.mask) a b x c.args.right.now refl same
    c.small-a.ensures.bits c.small-b.ensures.bits
    (product_bits 64 (length x) a b (bit_and n c.args.mask) c.requires.left (masked n c.args.mask (length x) c.requires.mask))
    (masked_below n c.args.mask (length x) c.requires.mask))

pub returns-in-And : goal.returns-in-And
returns-in-And c =
    let x = c.args.left.now in
    let a = c.small-a.result in
    let b = c.small-b.result in
    let same = rw c.in-And.is at c.requires.suit in
    let below : bit_and a b < 2 ^ length x = omega (arith, and_le_l a b, c.small-a.ensures.below) in
    rw c.in-And.is
    (from_words (λ k u v. bit_by_bit (λ x y. x && y) u v) (length x) (bit_and a b) a b x c.args.right.now refl same
    c.small-a.ensures.bits c.small-b.ensures.bits (both_bits (length x) a b) below)

pub returns-in-Or : goal.returns-in-Or
returns-in-Or c =
    let x = c.args.left.now in
    let a = c.small-a.result in
    let b = c.small-b.result in
    let same = rw c.in-Or.is at c.requires.suit in
    let right = subst (λ k. b < 2 ^ k) (sym same) c.small-b.ensures.below in
    rw c.in-Or.is
    (from_words (λ k u v. bit_by_bit (λ x y. x || y) u v) (length x) (bit_or a b) a b x c.args.right.now refl same
    c.small-a.ensures.bits c.small-b.ensures.bits (either_bits (length x) a b) (or_lt (length x) a b c.small-a.ensures.below right))

pub returns-in-Xor : goal.returns-in-Xor
returns-in-Xor c =
    let x = c.args.left.now in
    let a = c.small-a.result in
    let b = c.small-b.result in
    let same = rw c.in-Xor.is at c.requires.suit in
    let right = subst (λ k. b < 2 ^ k) (sym same) c.small-b.ensures.below in
    rw c.in-Xor.is
    (from_words (λ k u v. bit_by_bit differ u v) (length x) (bit_xor a b) a b x c.args.right.now refl same
    c.small-a.ensures.bits c.small-b.ensures.bits (differing_bits (length x) a b) (xor_lt (length x) a b c.small-a.ensures.below right))
