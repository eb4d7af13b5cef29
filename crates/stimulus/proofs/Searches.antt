-- The first place of a text whose byte passes a test, found by a search.
use Rattle.std.proofs.Common.{◌≡◌, ◌<◌, ℕ, zero, suc, Bool, true, false, List, [], ◌∷◌, Option, Some, None, length, slice_index, refl, arith}
use Rattle.std.specs.List.{position, position_or_len}
use Rattle.memchr.specs.Find.{IsFirstByte, is_byte}

-- a byte that doesn't pass
fails : (b : Bool) → (b ≡ true → ⊥) → b ≡ false
fails true never = absurd (never refl)
fails false _ = refl

passes_at : (p : ℕ → Bool) (text : List ℕ) (k : ℕ) → k < length text → p (slice_index text k) ≡ true → ((j : ℕ) → j < k → p (slice_index text j) ≡ true → ⊥) → position_or_len p text ≡ k
passes_at p [] k within at before = absurd (omega arith)
passes_at p (b ∷ text) zero within at before = rw at refl
passes_at p (b ∷ text) (suc k) within at before =
    rw (fails (p b) (before 0 (omega arith))) (omega (arith, passes_at p text k (omega arith) at (λ j below yes. before (suc j) (omega arith) yes)))

passes_nowhere : (p : ℕ → Bool) (text : List ℕ) → ((j : ℕ) → j < length text → p (slice_index text j) ≡ true → ⊥) → position_or_len p text ≡ length text
passes_nowhere p [] nowhere = refl
passes_nowhere p (b ∷ text) nowhere =
    rw (fails (p b) (nowhere 0 (omega arith))) (omega (arith, passes_nowhere p text (λ j below yes. nowhere (suc j) (omega arith) yes)))

-- the first such byte stands at its position
pub first_is_position : (byte : ℕ) (text : List ℕ) (r : Option ℕ) → IsFirstByte (is_byte byte) text r → r ≡ position (is_byte byte) text
first_is_position byte text (Some k) first =
    let at = passes_at (is_byte byte) text k first.0.high first.1 (λ j below yes. first.0.before j (omega arith) below yes) in
    grind (arith, at, first.0.high)
first_is_position byte text None nowhere =
    let at = passes_nowhere (is_byte byte) text (λ j below yes. nowhere j (omega arith) below yes) in
    grind (arith, at)
