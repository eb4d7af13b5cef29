-- Words that are made wider: by zeros, or by copies of their sign.
use Rattle.std.proofs.Common.{◌≡◌, ℕ, zero, suc, ◌+◌, arith, Bool, true, false, List, [], ◌∷◌, ◌++◌, length, replicate, refl, sym, ap, ◌∙◌, length-append, zero-add}
use lib.IntN.{pos}
use borrow.Author.Differences.{same_in, sum_is_lem, neg_is}
use Rattle.std.proofs.Math.Nat.{pow-suc}
use Rattle.std.proofs.lemmas.List.{append-nil, length-replicate}
use Rattle.chw_bits.specs.Bits.{bits_of, number_of}
use Rattle.chw_bits.specs.Integers.{signed, word_of}
use Rattle.chw_bits.proofs.Residues.{same_residue, word_of_number}
use Rattle.chw_bits.proofs.RoundTrips.{bits_of-number_of}
use Rattle.chw_bits.proofs.Signs.{signed_alike}
use Rattle.chw_types.specs.declared.kind.Scalar.{Scalar}
use Rattle.chw_types.specs.declared.kind.Scalar.TheVariants.{U, S, B}
use Rattle.prim_bits.specs.Words.{integer_of}

-- a word is made again of its number, and of its integer
word_of_number_of : (bits : List Bool) → word_of (length bits) (pos (number_of bits)) ≡ bits
word_of_number_of bits = sym (word_of_number (length bits) (number_of bits)) ∙ bits_of-number_of bits

pub word_of_integer : (s : Scalar) (bits : List Bool) → word_of (length bits) (integer_of s bits) ≡ bits
word_of_integer U bits = word_of_number_of bits
word_of_integer B bits = word_of_number_of bits
word_of_integer S bits =
    ap (bits_of (length bits)) (same_residue (length bits) (signed bits) (pos (number_of bits)) (signed_alike bits)) ∙ word_of_number_of bits

-- zeros before a word
pub number_of_zeros : (k : ℕ) (bits : List Bool) → number_of (replicate k false ++ bits) ≡ number_of bits
number_of_zeros zero bits = refl
number_of_zeros (suc k) bits = zero-add (number_of (replicate k false ++ bits)) ∙ number_of_zeros k bits

-- one more copy of a sign
signed_again : (sign : Bool) (bits : List Bool) → signed (sign ∷ sign ∷ bits) ≡ signed (sign ∷ bits)
signed_again true bits = let twice = pow-suc 2 (length bits) in same_in _ _ (omega (arith, sum_is_lem, neg_is))
signed_again false bits = same_in _ _ (omega (arith, sum_is_lem, neg_is))

signed_copied : (k : ℕ) (sign : Bool) (bits : List Bool) → signed (replicate (suc k) sign ++ bits) ≡ signed (sign ∷ bits)
signed_copied zero sign bits = refl
signed_copied (suc k) sign bits = signed_again sign (replicate k sign ++ bits) ∙ signed_copied k sign bits

copies_before : (k : ℕ) (sign : Bool) (bits : List Bool) → replicate k sign ++ sign ∷ bits ≡ replicate (suc k) sign ++ bits
copies_before zero sign bits = refl
copies_before (suc k) sign bits = ap (λ rest. sign ∷ rest) (copies_before k sign bits)

-- copies of a word's sign before it
pub signed_copies : (k : ℕ) (sign : Bool) (bits : List Bool) → signed (replicate k sign ++ sign ∷ bits) ≡ signed (sign ∷ bits)
signed_copies k sign bits = ap signed (copies_before k sign bits) ∙ signed_copied k sign bits

-- bits before a word that leave its integer make the word of it at their width together
pub extended_word : (s : Scalar) (n m : ℕ) (more bits : List Bool) → length bits ≡ n → length more ≡ m → integer_of s (more ++ bits) ≡ integer_of s bits → more ++ bits ≡ word_of (n + m) (integer_of s bits)
extended_word s n m more bits e f same =
    let width : length (more ++ bits) ≡ n + m = omega (arith, length-append more bits) in
    sym (word_of_integer s (more ++ bits)) ∙ ap (λ w. word_of w (integer_of s (more ++ bits))) width ∙ ap (word_of (n + m)) same

-- no bits before it
pub same_word : (s : Scalar) (n : ℕ) (bits : List Bool) → length bits ≡ n → bits ≡ word_of (n + 0) (integer_of s bits)
same_word s n bits e = extended_word s n 0 [] bits e refl refl

-- zeros before a word that means its number
pub zeros_word : (s : Scalar) (n m : ℕ) (bits : List Bool) → ((x : List Bool) → integer_of s x ≡ pos (number_of x)) → length bits ≡ n → replicate m false ++ bits ≡ word_of (n + m) (integer_of s bits)
zeros_word s n m bits is e =
    extended_word s n m (replicate m false) bits e (length-replicate m false) (is (replicate m false ++ bits) ∙ ap pos (number_of_zeros m bits) ∙ sym (is bits))

-- zeros alone
integer_of_zeros : (s : Scalar) (k : ℕ) → integer_of s (replicate k false ++ []) ≡ integer_of s []
integer_of_zeros U k = ap pos (number_of_zeros k [])
integer_of_zeros B k = ap pos (number_of_zeros k [])
integer_of_zeros S zero = refl
integer_of_zeros S (suc k) = signed_copied k false []

pub zeros_alone : (s : Scalar) (m : ℕ) (bits : List Bool) → length bits ≡ 0 → replicate m false ≡ word_of (0 + m) (integer_of s bits)
zeros_alone s m [] e = sym (append-nil (replicate m false)) ∙ extended_word s 0 m (replicate m false) [] refl (length-replicate m false) (integer_of_zeros s m)
zeros_alone s m (bit ∷ bits) e = absurd (omega (arith, e))
