-- Zeros in front of a path.
use Rattle.std.proofs.Common.{◌≡◌, ℕ, zero, suc, ◌<◌, ◌≤◌, ◌∙◌, ap, refl, arith, List, [], ◌∷◌, ◌++◌, length, replicate, drop, drop-cons, get_or}
use Rattle.std.proofs.lemmas.List.{append-nil, drop_all}
use Rattle.chw_typing.specs.Steps.{AreZeros}

pub zeros_there : (path : List ℕ) (n : ℕ) → n ≤ length path → ((k : ℕ) → k < n → get_or path k 0 ≡ 0) → path ≡ replicate n 0 ++ drop n path
zeros_there path zero h each = refl
zeros_there [] (suc n) h each = absurd (omega arith)
zeros_there (i ∷ path) (suc n) h each =
    ap (λ k. k ∷ path) (each 0 (omega arith)) ∙ ap (λ p. 0 ∷ p) (zeros_there path n (omega arith) (λ k less. each (suc k) (omega arith)))

-- behind them stands what the path leads to next
pub next_there : (path : List ℕ) (most n : ℕ) → AreZeros path most n → n < length path → path ≡ replicate n 0 ++ get_or path n 0 ∷ drop (suc n) path
next_there path most n are h = are.zeros ∙ ap (λ (p : List ℕ). replicate n 0 ++ p) (drop-cons path n 0 h)

pub all_zeros : (path : List ℕ) (most n : ℕ) → AreZeros path most n → n ≡ length path → path ≡ replicate n 0
all_zeros path most n are h =
    are.zeros ∙ ap (λ (p : List ℕ). replicate n 0 ++ p) (ap (λ k. drop k path) h ∙ drop_all (length path) path (omega arith)) ∙ append-nil (replicate n 0)
