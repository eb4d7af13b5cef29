-- The lengths of words that are made bit by bit.
use Rattle.std.proofs.Common.{◌≡◌, suc, ◌≤◌, Bool, List, [], ◌∷◌, length, refl, ap, arith}
use Rattle.chw_bits.specs.Bitwise.{bit_by_bit}

pub length-bit_by_bit : (of : Bool → Bool → Bool) (a b : List Bool) → length a ≡ length b → length (bit_by_bit of a b) ≡ length a
length-bit_by_bit of [] b e = refl
length-bit_by_bit of (x ∷ a) [] e = absurd (omega arith)
length-bit_by_bit of (x ∷ a) (y ∷ b) e = ap suc (length-bit_by_bit of a b (omega arith))

pub length-bit_by_bit_le : (of : Bool → Bool → Bool) (a b : List Bool) → length (bit_by_bit of a b) ≤ length a
length-bit_by_bit_le of [] b = omega arith
length-bit_by_bit_le of (x ∷ a) [] = omega arith
length-bit_by_bit_le of (x ∷ a) (y ∷ b) = omega (arith, length-bit_by_bit_le of a b)
