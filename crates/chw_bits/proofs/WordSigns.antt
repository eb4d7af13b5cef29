-- The integers of words, by their first bit.
use Rattle.std.proofs.Common.{◌≡◌, ℕ, suc, ◌-◌, ◌%◌, ◌^◌, ◌<◌, ◌≤◌, true, false, length, get_or, subst, ap, ◌∙◌, arith}
use lib.IntN.{pos, negsuc}
use Rattle.chw_bits.specs.Bits.{number_of, bits_of}
use Rattle.chw_bits.specs.Integers.{signed}
use Rattle.chw_bits.proofs.Numbers.{length-bits_of}
use Rattle.chw_bits.proofs.Signs.{negative_is, negative_small, positive_is, positive_small}
use Rattle.chw_bits.proofs.WordResults.{number_kept}

complement_kept : (w v a : ℕ) → a < 2 ^ w → (2 ^ v - 1 - number_of (bits_of w a)) % 2 ^ length (bits_of w a) ≡ (2 ^ v - 1 - a) % 2 ^ w
complement_kept w v a below =
    ap (λ l. (2 ^ v - 1 - number_of (bits_of w a)) % 2 ^ l) (length-bits_of w a) ∙ ap (λ n. (2 ^ v - 1 - n) % 2 ^ w) (number_kept w a below)

-- a word whose first bit is set
pub negative_word : (w v a : ℕ) → w ≤ v → a < 2 ^ w → get_or (bits_of w a) 0 false ≡ true → signed (bits_of w a) ≡ negsuc ((2 ^ v - 1 - a) % 2 ^ w)
negative_word w v a le below set =
    negative_is (bits_of w a) v (omega (arith, length-bits_of w a)) set ∙ ap negsuc (complement_kept w v a below)

pub negative_word_small : (w v a : ℕ) → w ≤ suc v → a < 2 ^ w → get_or (bits_of w a) 0 false ≡ true → (2 ^ suc v - 1 - a) % 2 ^ w < 2 ^ v
negative_word_small w v a le below set =
    subst (λ n. n < 2 ^ v) (complement_kept w (suc v) a below) (negative_small (bits_of w a) v (omega (arith, length-bits_of w a)) set)

-- a word whose first bit isn't set
pub positive_word : (w a : ℕ) → a < 2 ^ w → get_or (bits_of w a) 0 false ≡ false → signed (bits_of w a) ≡ pos a
positive_word w a below unset = positive_is (bits_of w a) unset ∙ ap pos (number_kept w a below)

pub positive_word_small : (w v a : ℕ) → w ≤ suc v → a < 2 ^ w → get_or (bits_of w a) 0 false ≡ false → a < 2 ^ v
positive_word_small w v a le below unset =
    subst (λ n. n < 2 ^ v) (number_kept w a below) (positive_small (bits_of w a) v (omega (arith, length-bits_of w a)) unset)
