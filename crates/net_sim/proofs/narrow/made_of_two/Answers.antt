use Rattle.std.proofs.Common.{ℕ, ◌<◌, ◌^◌, ◌&&◌, ◌||◌, Bool, List, length, pos, ◌+ℤ◌, ◌-ℤ◌, ◌*ℤ◌, sym, ap, ◌∙◌, subst, arith}
use Rattle.std.specs.Int.{int_div_euclid}
use Rattle.chw_bits.specs.Bits.{number_of}
use Rattle.chw_bits.specs.Bitwise.{bit_by_bit, differ}
use Rattle.chw_bits.specs.Integers.{signed, word_of}
use Rattle.net_sim.proofs.Made.{from_word, from_words}
use Rattle.net_sim.proofs.narrow.made_of_two.Goals as goal

pub returns-in-Add : goal.returns-in-Add
returns-in-Add c =
    let same = rw c.in-Add.is at c.requires.suit in
    rw c.in-Add.is
    (from_words (λ k u v. word_of k (pos (number_of u) +ℤ pos (number_of v))) c.len-width.result c.sum.result c.number-a.result
    c.number-b.result c.args.left.now c.args.right.now c.len-width.ensures same c.number-a.ensures.bits c.number-b.ensures.bits
    c.sum.ensures.bits c.sum.ensures.below)

pub returns-in-Sub : goal.returns-in-Sub
returns-in-Sub c =
    let same = rw c.in-Sub.is at c.requires.suit in
    rw c.in-Sub.is
    (from_words (λ k u v. word_of k (pos (number_of u) -ℤ pos (number_of v))) c.len-width.result c.difference.result c.number-a.result
    c.number-b.result c.args.left.now c.args.right.now c.len-width.ensures same c.number-a.ensures.bits c.number-b.ensures.bits
    c.difference.ensures.bits c.difference.ensures.below)

pub returns-in-Mul : goal.returns-in-Mul
returns-in-Mul c =
    let same = rw c.in-Mul.is at c.requires.suit in
    rw c.in-Mul.is
    (from_words (λ k u v. word_of k (pos (number_of u) *ℤ pos (number_of v))) c.len-width.result c.product.result c.number-a.result
    c.number-b.result c.args.left.now c.args.right.now c.len-width.ensures same c.number-a.ensures.bits c.number-b.ensures.bits
    c.product.ensures.bits c.product.ensures.below)

pub returns-in-And : goal.returns-in-And
returns-in-And c =
    let width = c.len-width.result in
    let x = c.args.left.now in
    let y = c.args.right.now in
    let same = rw c.in-And.is at c.requires.suit in
    let left = subst (λ n. c.number-a.result < 2 ^ n) (sym c.len-width.ensures) c.number-a.ensures.below in
    let right = subst (λ n. c.number-b.result < 2 ^ n) (sym (c.len-width.ensures ∙ same)) c.number-b.ensures.below in
    rw c.in-And.is
    (from_words (λ k u v. bit_by_bit (λ x y. x && y) u v) width c.both.result c.number-a.result c.number-b.result x y
    c.len-width.ensures same c.number-a.ensures.bits c.number-b.ensures.bits (c.both.ensures.bits width)
    (c.both.ensures.below width left right))

pub returns-in-Or : goal.returns-in-Or
returns-in-Or c =
    let width = c.len-width.result in
    let x = c.args.left.now in
    let y = c.args.right.now in
    let same = rw c.in-Or.is at c.requires.suit in
    let left = subst (λ n. c.number-a.result < 2 ^ n) (sym c.len-width.ensures) c.number-a.ensures.below in
    let right = subst (λ n. c.number-b.result < 2 ^ n) (sym (c.len-width.ensures ∙ same)) c.number-b.ensures.below in
    rw c.in-Or.is
    (from_words (λ k u v. bit_by_bit (λ x y. x || y) u v) width c.either.result c.number-a.result c.number-b.result x y
    c.len-width.ensures same c.number-a.ensures.bits c.number-b.ensures.bits (c.either.ensures.bits width)
    (c.either.ensures.below width left right))

pub returns-in-Xor : goal.returns-in-Xor
returns-in-Xor c =
    let width = c.len-width.result in
    let x = c.args.left.now in
    let y = c.args.right.now in
    let same = rw c.in-Xor.is at c.requires.suit in
    let left = subst (λ n. c.number-a.result < 2 ^ n) (sym c.len-width.ensures) c.number-a.ensures.below in
    let right = subst (λ n. c.number-b.result < 2 ^ n) (sym (c.len-width.ensures ∙ same)) c.number-b.ensures.below in
    rw c.in-Xor.is
    (from_words (λ k u v. bit_by_bit differ u v) width c.differing.result c.number-a.result c.number-b.result x y
    c.len-width.ensures same c.number-a.ensures.bits c.number-b.ensures.bits (c.differing.ensures.bits width)
    (c.differing.ensures.below width left right))

pub returns-in-Shl : goal.returns-in-Shl
returns-in-Shl c =
    let width = c.len-width.result in
    let x = c.args.left.now in
    let made : ℕ → ℕ → List Bool → List Bool = λ p k u. word_of k (pos (number_of u) *ℤ pos (2 ^ p)) in
    rw c.in-Shl.is
    (from_word (made c.number-b.result) width c.up.result c.number-a.result x c.len-width.ensures c.number-a.ensures.bits
    c.up.ensures.bits c.up.ensures.below
    ∙ ap (λ p. number_of (made p (length x) x)) c.number-b.ensures.number)

pub returns-in-Shr : goal.returns-in-Shr
returns-in-Shr c =
    let width = c.len-width.result in
    let x = c.args.left.now in
    let made : ℕ → ℕ → List Bool → List Bool = λ p k u. word_of k (int_div_euclid (pos (number_of u)) (pos (2 ^ p))) in
    let below = subst (λ n. c.number-a.result < 2 ^ n) (sym c.len-width.ensures) c.number-a.ensures.below in
    let less : c.down.result < 2 ^ width = omega (arith, c.down.ensures.below) in
    rw c.in-Shr.is
    (from_word (made c.number-b.result) width c.down.result c.number-a.result x c.len-width.ensures c.number-a.ensures.bits
    (c.down.ensures.bits width below) less
    ∙ ap (λ p. number_of (made p (length x) x)) c.number-b.ensures.number)

pub returns-in-Sar : goal.returns-in-Sar
returns-in-Sar c =
    let width = c.len-width.result in
    let x = c.args.left.now in
    let made : ℕ → ℕ → List Bool → List Bool = λ p k u. word_of k (int_div_euclid (signed u) (pos (2 ^ p))) in
    rw c.in-Sar.is
    (from_word (made c.number-b.result) width c.signed_down.result c.number-a.result x c.len-width.ensures c.number-a.ensures.bits
    c.signed_down.ensures.bits c.signed_down.ensures.below
    ∙ ap (λ p. number_of (made p (length x) x)) c.number-b.ensures.number)
