-- What the operators give is what the results of primitives are made of.
use Rattle.std.proofs.Common.{◌≡◌, ℕ, ◌*◌, ◌^◌, ◌==◌, arith, Bool, List, [], length, sym, ap, ◌∙◌}
use lib.IntN.{ℤ, pos, negsuc, ◌+ℤ◌, ◌-ℤ◌, ◌*ℤ◌}
use Rattle.std.proofs.Math.Nat.{div-one}
use Rattle.std.proofs.lemmas.Bool.Decides.{Decides-eqb, Decides-int_eq, same_from_decides}
use Rattle.std.specs.Bool.{Decides}
use Rattle.std.specs.Int.{int_div_euclid}
use Rattle.std.specs.Ordering.{int_eq}
use Rattle.chw_bits.specs.Bits.{bits_of, number_of}
use Rattle.chw_bits.specs.Bitwise.{one_bit}
use Rattle.chw_bits.specs.Integers.{signed, word_of}
use Rattle.chw_bits.proofs.Numbers.{length-bits_of}
use Rattle.chw_bits.proofs.Residues.{alike_product, alike_same, same_residue}
use Rattle.chw_bits.proofs.RoundTrips.{same_bits}
use Rattle.chw_bits.proofs.Signs.{alike_at}
use Rattle.chw_bits.proofs.WordResults.{word_of_sum, word_of_product}
use Rattle.chw_types.specs.declared.kind.Scalar.{Scalar}
use Rattle.chw_types.specs.declared.kind.Scalar.TheVariants.{U, S, B}
use Rattle.netlist.specs.Operators.{operator2}
use Rattle.netlist.specs.declared.net.Op2.TheVariants.{Add, Sub, Mul, Eq, Shl, Shr, Sar}
use Rattle.prim_bits.specs.Results.{sum_of, difference_of, product_of, raised_of, lowered_of}
use Rattle.prim_bits.specs.Words.{integer_of}
use Rattle.prim_bits.proofs.SignedResults.{same_sum, same_difference, same_product}
use Rattle.cell_bits.proofs.Extending.{word_of_integer}

-- sums, differences and products of words of one width
number_sum : (n : ℕ) (x y : List Bool) → length x ≡ n → operator2 Add x y ≡ sum_of U n x y
number_sum n x y e = ap (λ w. word_of w (pos (number_of x) +ℤ pos (number_of y))) e

pub sum_given : (s : Scalar) (n : ℕ) (x y : List Bool) → length x ≡ n → length y ≡ n → operator2 Add x y ≡ sum_of s n x y
sum_given U n x y e f = number_sum n x y e
sum_given B n x y e f = number_sum n x y e
sum_given S n x y e f = number_sum n x y e ∙ sym (same_sum n x y (omega (arith, e)) (omega (arith, f)))

number_difference : (n : ℕ) (x y : List Bool) → length x ≡ n → operator2 Sub x y ≡ difference_of U n x y
number_difference n x y e = ap (λ w. word_of w (pos (number_of x) -ℤ pos (number_of y))) e

pub difference_given : (s : Scalar) (n : ℕ) (x y : List Bool) → length x ≡ n → length y ≡ n → operator2 Sub x y ≡ difference_of s n x y
difference_given U n x y e f = number_difference n x y e
difference_given B n x y e f = number_difference n x y e
difference_given S n x y e f = number_difference n x y e ∙ sym (same_difference n x y (omega (arith, e)) (omega (arith, f)))

number_product : (n : ℕ) (x y : List Bool) → length x ≡ n → operator2 Mul x y ≡ product_of U n x y
number_product n x y e = ap (λ w. word_of w (pos (number_of x) *ℤ pos (number_of y))) e

pub product_given : (s : Scalar) (n : ℕ) (x y : List Bool) → length x ≡ n → length y ≡ n → operator2 Mul x y ≡ product_of s n x y
product_given U n x y e f = number_product n x y e
product_given B n x y e f = number_product n x y e
product_given S n x y e f = number_product n x y e ∙ sym (same_product n x y (omega (arith, e)) (omega (arith, f)))

-- the sum and the product of words that were made wider first
pub wide_sum_given : (s : Scalar) (w : ℕ) (x y : List Bool) → operator2 Add (word_of w (integer_of s x)) (word_of w (integer_of s y)) ≡ sum_of s w x y
wide_sum_given s w x y =
    let a = word_of w (integer_of s x) in
    let b = word_of w (integer_of s y) in
    ap (λ n. word_of n (pos (number_of a) +ℤ pos (number_of b))) (length-bits_of w _) ∙ word_of_sum w (integer_of s x) (integer_of s y)

pub wide_product_given : (s : Scalar) (w : ℕ) (x y : List Bool) → operator2 Mul (word_of w (integer_of s x)) (word_of w (integer_of s y)) ≡ product_of s w x y
wide_product_given s w x y =
    let a = word_of w (integer_of s x) in
    let b = word_of w (integer_of s y) in
    ap (λ n. word_of n (pos (number_of a) *ℤ pos (number_of b))) (length-bits_of w _) ∙ word_of_product w (integer_of s x) (integer_of s y)

-- words that are moved up and down
number_raised : (n : ℕ) (x y : List Bool) → length x ≡ n → operator2 Shl x y ≡ raised_of U n x y
number_raised n x y e = ap (λ w. word_of w (pos (number_of x) *ℤ pos (2 ^ number_of y))) e

pub raised_given : (s : Scalar) (n : ℕ) (x y : List Bool) → length x ≡ n → operator2 Shl x y ≡ raised_of s n x y
raised_given U n x y e = number_raised n x y e
raised_given B n x y e = number_raised n x y e
raised_given S n x y e =
    let weight = pos (2 ^ number_of y) in
    let alike = alike_product (2 ^ n) (signed x) (pos (number_of x)) weight weight (alike_at n x (omega (arith, e))) (alike_same (2 ^ n) weight) in
    number_raised n x y e ∙ sym (ap (bits_of n) (same_residue n (signed x *ℤ weight) (pos (number_of x) *ℤ weight) alike))

pub lowered_given : (n : ℕ) (x y : List Bool) → length x ≡ n → operator2 Shr x y ≡ lowered_of U n x y
lowered_given n x y e = ap (λ w. word_of w (int_div_euclid (pos (number_of x)) (pos (2 ^ number_of y)))) e

pub signed_lowered_given : (n : ℕ) (x y : List Bool) → length x ≡ n → operator2 Sar x y ≡ lowered_of S n x y
signed_lowered_given n x y e = ap (λ w. word_of w (int_div_euclid (signed x) (pos (2 ^ number_of y)))) e

-- a word that is moved by no places stays
times_one : (a : ℕ) → pos a *ℤ pos 1 ≡ pos a
times_one a = let e : a * 1 ≡ a = omega arith in ap pos e

over_one : (z : ℤ) → int_div_euclid z (pos 1) ≡ z
over_one (pos a) = ap pos (div-one a)
over_one (negsuc a) = ap negsuc (div-one a)

pub raised_by_none : (x : List Bool) → operator2 Shl x [] ≡ x
raised_by_none x = ap (word_of (length x)) (times_one (number_of x)) ∙ word_of_integer U x

pub lowered_by_none : (x : List Bool) → operator2 Shr x [] ≡ x
lowered_by_none x = ap (word_of (length x)) (over_one (pos (number_of x))) ∙ word_of_integer U x

pub signed_lowered_by_none : (x : List Bool) → operator2 Sar x [] ≡ x
signed_lowered_by_none x = ap (word_of (length x)) (over_one (signed x)) ∙ word_of_integer S x

-- words of one width mean one integer where they have one number
same_integer : (s : Scalar) (x y : List Bool) → length x ≡ length y → number_of x ≡ number_of y → integer_of s x ≡ integer_of s y
same_integer s x y e f = ap (integer_of s) (same_bits x y e f)

same_number : (s : Scalar) (x y : List Bool) → length x ≡ length y → integer_of s x ≡ integer_of s y → number_of x ≡ number_of y
same_number s x y e f =
    ap number_of (sym (word_of_integer s x) ∙ ap (λ w. word_of w (integer_of s x)) e ∙ ap (word_of (length y)) f ∙ word_of_integer s y)

pub equal_given : (s : Scalar) (n : ℕ) (x y : List Bool) → length x ≡ n → length y ≡ n → operator2 Eq x y ≡ one_bit (int_eq (integer_of s x) (integer_of s y))
equal_given s n x y e f =
    let a = integer_of s x in
    let b = integer_of s y in
    let width : length x ≡ length y = e ∙ sym f in
    let test = Decides-int_eq a b in
    let decides : Decides (int_eq a b) (number_of x ≡ number_of y) = (λ is. same_number s x y width (test.0 is), λ is. test.1 (same_integer s x y width is)) in
    ap one_bit (same_from_decides (number_of x == number_of y) (int_eq a b) (Decides-eqb (number_of x) (number_of y)) decides)
