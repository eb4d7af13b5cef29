-- Words in two's complement, by their first bit.
use Rattle.std.proofs.Common.{◌≡◌, ℕ, suc, ◌+◌, ◌-◌, ◌*◌, ◌%◌, ◌^◌, ◌<◌, ◌≤◌, Bool, true, false, List, [], ◌∷◌, length, get_or, refl, ap, ◌∙◌, arith}
use lib.IntN.{pos, negsuc}
use mir.Syntax.{w128}
use mir.Val.{to_z, of_z}
use borrow.Author.Differences.{same_in, sum_is_lem, neg_is}
use Rattle.std.proofs.Math.Nat.{pow-suc, pow-le-pow_right}
use Rattle.std.proofs.lemmas.Nat.{pow_pos, pow-add, mod_low}
use Rattle.std.proofs.lemmas.Int.{to_z-of_z}
use Rattle.chw_bits.specs.Bits.{number_of}
use Rattle.chw_bits.proofs.Numbers.{lt-pow, number_of_lt}
use Rattle.chw_bits.specs.Integers.{signed}
use Rattle.chw_bits.proofs.Residues.{Alike, alike_same, alike_narrow}

-- the low part of a number's complement is its complement at that width
pub complement_low : (w v n : ℕ) → w ≤ v → n < 2 ^ w → (2 ^ v - 1 - n) % 2 ^ w ≡ 2 ^ w - 1 - n
complement_low w v n le below =
    let rest = v - w in
    let split : v ≡ rest + w = omega arith in
    let power : 2 ^ v ≡ 2 ^ rest * 2 ^ w = ap (λ j. 2 ^ j) split ∙ pow-add 2 rest w in
    let some : 0 < 2 ^ rest = pow_pos rest in
    let high = 2 ^ rest - 1 in
    let more : 2 ^ rest ≡ high + 1 = omega arith in
    let whole : 2 ^ v ≡ (high + 1) * 2 ^ w = power ∙ ap (λ j. j * 2 ^ w) more in
    let shape : 2 ^ v - 1 - n ≡ high * 2 ^ w + (2 ^ w - 1 - n) = omega arith in
    ap (λ j. j % 2 ^ w) shape ∙ mod_low high w (2 ^ w - 1 - n) (omega arith)

-- a word's integer is alike its number
pub signed_alike : (bits : List Bool) → Alike (2 ^ length bits) (signed bits) (pos (number_of bits))
signed_alike [] = alike_same (2 ^ 0) (pos 0)
signed_alike (true ∷ bits) = let twice = pow-suc 2 (length bits) in record { over = 1; under = 0; is = omega (arith, sum_is_lem, neg_is) }
signed_alike (false ∷ bits) = record { over = 0; under = 0; is = omega (arith, sum_is_lem, neg_is) }

pub alike_at : (w : ℕ) (bits : List Bool) → w ≤ length bits → Alike (2 ^ w) (signed bits) (pos (number_of bits))
alike_at w bits le = alike_narrow w (length bits) (signed bits) (pos (number_of bits)) le (signed_alike bits)

-- a word whose first bit is set
pub negative_is : (bits : List Bool) (v : ℕ) → length bits ≤ v → get_or bits 0 false ≡ true → signed bits ≡ negsuc ((2 ^ v - 1 - number_of bits) % 2 ^ length bits)
negative_is [] v le e = cc
negative_is (false ∷ bits) v le e = cc
negative_is (true ∷ bits) v le e =
    let below = number_of_lt bits in
    let twice = pow-suc 2 (length bits) in
    let low = complement_low (length (true ∷ bits)) v (number_of (true ∷ bits)) le (number_of_lt (true ∷ bits)) in
    same_in _ _ (omega (arith, sum_is_lem, neg_is))

pub negative_small : (bits : List Bool) (v : ℕ) → length bits ≤ suc v → get_or bits 0 false ≡ true → (2 ^ suc v - 1 - number_of bits) % 2 ^ length bits < 2 ^ v
negative_small [] v le e = cc
negative_small (false ∷ bits) v le e = cc
negative_small (true ∷ bits) v le e =
    let below = number_of_lt bits in
    let twice = pow-suc 2 (length bits) in
    let low = complement_low (length (true ∷ bits)) (suc v) (number_of (true ∷ bits)) le (number_of_lt (true ∷ bits)) in
    let weight : 2 ^ length bits ≤ 2 ^ v = pow-le-pow_right {n = 2} (omega arith) {i = length bits} {j = v} (omega arith) in
    omega arith

-- a word whose first bit isn't set
pub positive_is : (bits : List Bool) → get_or bits 0 false ≡ false → signed bits ≡ pos (number_of bits)
positive_is [] e = refl
positive_is (true ∷ bits) e = cc
positive_is (false ∷ bits) e = same_in _ _ (omega (arith, sum_is_lem, neg_is))

pub positive_small : (bits : List Bool) (v : ℕ) → length bits ≤ suc v → get_or bits 0 false ≡ false → number_of bits < 2 ^ v
positive_small [] v le e = pow_pos v
positive_small (true ∷ bits) v le e = cc
positive_small (false ∷ bits) v le e = let below = lt-pow (number_of bits) (length bits) v (number_of_lt bits) (omega arith) in omega arith

-- what `!` gives at a machine integer that isn't negative
pub complement_is : (n : ℕ) → n < 2 ^ 127 → to_z w128 (2 ^ 128 - 1 - n) ≡ negsuc n
complement_is n below =
    let shape : 2 ^ 128 - 1 - n ≡ of_z w128 (negsuc n) = omega arith in
    ap (to_z w128) shape ∙ to_z-of_z w128 (negsuc n) (record { sfits = below })
