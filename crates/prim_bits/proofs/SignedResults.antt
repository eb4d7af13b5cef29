-- Signed arithmetic up to the width of its words.
use Rattle.std.proofs.Common.{◌≡◌, ℕ, ◌^◌, ◌≤◌, Bool, List, length, ap}
use lib.IntN.{pos}
use Rattle.chw_types.specs.declared.kind.Scalar.TheVariants.{U, S}
use Rattle.chw_bits.specs.Bits.{number_of, bits_of}
use Rattle.chw_bits.specs.Integers.{signed}
use Rattle.chw_bits.proofs.Residues.{alike_sum, alike_difference, alike_product, same_residue}
use Rattle.chw_bits.proofs.Signs.{alike_at}
use Rattle.prim_bits.specs.Results.{sum_of, difference_of, product_of}

-- up to the width of its words, signed arithmetic has the bits of unsigned arithmetic
pub same_sum : (w : ℕ) (a b : List Bool) → w ≤ length a → w ≤ length b → sum_of S w a b ≡ sum_of U w a b
same_sum w a b p q = ap (bits_of w) (same_residue w _ _ (alike_sum (2 ^ w) (signed a) (pos (number_of a)) (signed b) (pos (number_of b)) (alike_at w a p) (alike_at w b q)))

pub same_difference : (w : ℕ) (a b : List Bool) → w ≤ length a → w ≤ length b → difference_of S w a b ≡ difference_of U w a b
same_difference w a b p q = ap (bits_of w) (same_residue w _ _ (alike_difference (2 ^ w) (signed a) (pos (number_of a)) (signed b) (pos (number_of b)) (alike_at w a p) (alike_at w b q)))

pub same_product : (w : ℕ) (a b : List Bool) → w ≤ length a → w ≤ length b → product_of S w a b ≡ product_of U w a b
same_product w a b p q = ap (bits_of w) (same_residue w _ _ (alike_product (2 ^ w) (signed a) (pos (number_of a)) (signed b) (pos (number_of b)) (alike_at w a p) (alike_at w b q)))
