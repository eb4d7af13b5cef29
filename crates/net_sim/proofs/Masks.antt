-- What is made of words of at most 64 bits, with masks.
use Rattle.std.proofs.Common.{◌≡◌, ℕ, ◌+◌, ◌-◌, ◌*◌, ◌/◌, ◌%◌, ◌<◌, ◌≤◌, ◌^◌, Bool, true, false, not, List, [], ◌∷◌, length, map, bit_and, refl, sym, ap, subst, ◌∙◌, arith}
use Rattle.std.proofs.Math.Nat.{pow-suc}
use Rattle.std.proofs.lemmas.List.{length-map}
use Rattle.std.proofs.lemmas.Nat.{and_mask, mod_below, one_shl, pow_pos}
use Rattle.chw_bits.specs.Bits.{cut_of, number_of}
use Rattle.chw_bits.proofs.Numbers.{number_of_lt}
use Rattle.chw_bits.proofs.RoundTrips.{number_of-cut_of}

-- a mask keeps the lowest bits
pub masked : (n mask width : ℕ) → mask ≡ 2 ^ width - 1 → bit_and n mask ≡ n % 2 ^ width
masked n mask width is = ap (bit_and n) is ∙ and_mask n width

pub masked_below : (n mask width : ℕ) → mask ≡ 2 ^ width - 1 → bit_and n mask < 2 ^ width
masked_below n mask width is = subst (λ k. k < 2 ^ width) (sym (masked n mask width is)) (mod_below n (2 ^ width) (pow_pos width))

-- a power less 1 is a mask
pub made_mask : (width : ℕ) → width < 64 → 1 * 2 ^ width % 2 ^ 64 - 1 ≡ 2 ^ width - 1
made_mask width lt = ap (λ n. n - 1) (one_shl width 64 lt)

pub mask_some : (width : ℕ) → width < 64 → 1 ≤ 1 * 2 ^ width % 2 ^ 64
mask_some width lt = let some = pow_pos width in omega (arith, one_shl width 64 lt)

-- the number of the bits that a word hasn't
pub number_of-not : (bits : List Bool) → number_of (map not bits) + number_of bits + 1 ≡ 2 ^ length bits
number_of-not [] = refl
number_of-not (true ∷ bits) = omega (arith, number_of-not bits, pow-suc 2 (length bits))
number_of-not (false ∷ bits) =
    let same : 2 ^ length (map not bits) ≡ 2 ^ length bits = ap (λ k. 2 ^ k) (length-map bits not) in
    omega (arith, number_of-not bits, pow-suc 2 (length bits), same)

pub flipped_number : (bits : List Bool) (mask n : ℕ) → mask ≡ 2 ^ length bits - 1 → n ≡ number_of bits → mask - n ≡ number_of (map not bits)
flipped_number bits mask n is number = omega (arith, number_of-not bits)

pub within_mask : (bits : List Bool) (mask n : ℕ) → mask ≡ 2 ^ length bits - 1 → n ≡ number_of bits → n ≤ mask
within_mask bits mask n is number = omega (arith, number_of_lt bits)

-- the number of a part of a word
pub part_number : (bits : List Bool) (high low mask n : ℕ) → low ≤ high → high < length bits → mask ≡ 2 ^ (high + 1 - low) - 1 → n ≡ number_of bits
    → bit_and (n / 2 ^ low) mask ≡ number_of (cut_of high low bits)
part_number bits high low mask n order within is number =
    masked (n / 2 ^ low) mask (high + 1 - low) is ∙ ap (λ k. k / 2 ^ low % 2 ^ (high + 1 - low)) number
    ∙ sym (number_of-cut_of bits high low order within)
