-- Texts of which each byte passes a test, or is a digit.
use Rattle.std.proofs.Common.{◌≡◌, ℕ, zero, suc, ◌<◌, Bool, true, List, [], ◌∷◌, length, get_or, take, arith}
use Rattle.std.specs.Char.{digit_value}
use Rattle.std.specs.Str.Parse.{AllDigits}
use Rattle.chw_base.specs.Names.{AllOf}

-- one more byte that passes
pub passes_more : (test : ℕ → Bool) (bytes : List ℕ) (n : ℕ) → n < length bytes → AllOf test (take n bytes) → test (get_or bytes n 0) ≡ true → AllOf test (take (suc n) bytes)
passes_more test [] n within passes here = absurd (omega arith)
passes_more test (b ∷ bytes) zero within passes here = (here, tt)
passes_more test (b ∷ bytes) (suc n) within passes here = (passes.0, passes_more test bytes n (omega arith) passes.1 here)

-- each byte of a text that passes
pub passes_at : (test : ℕ → Bool) (bytes : List ℕ) (n : ℕ) → n < length bytes → AllOf test bytes → test (get_or bytes n 0) ≡ true
passes_at test [] n within passes = absurd (omega arith)
passes_at test (b ∷ bytes) zero within passes = passes.0
passes_at test (b ∷ bytes) (suc n) within passes = passes_at test bytes n (omega arith) passes.1

pub digit_below : (radix : ℕ) (text : List ℕ) (i : ℕ) → AllDigits radix text → i < length text → digit_value (get_or text i 0) < radix
digit_below radix [] i all below = absurd (omega arith)
digit_below radix (c ∷ text) zero all below = all.0
digit_below radix (c ∷ text) (suc i) all below = digit_below radix text i all.1 (omega arith)
