-- What holds of each item that refers to others without a cycle.
use Rattle.std.proofs.Common.{◌≡◌, ℕ, zero, suc, ◌<◌, Bool, true, arith}
use Rattle.graph_order.specs.References.{HasNoCycle}
use Rattle.net_grounds.specs.Facts.{Facts}

-- what holds of an item where it holds of those to which it refers holds of each
module _ (facts : Facts) (goes : ℕ → ℕ → Bool) (none : HasNoCycle (λ i j. goes i j ≡ true)) (n : ℕ) (P : ℕ → Type 0)
    (step : (i : ℕ) → i < n → ((j : ℕ) → j < n → goes i j ≡ true → P j) → P i) where
  by_place : (k i : ℕ) → i < n → (facts.built.places goes n none).0 i < k → P i
  by_place zero i l m = absurd (omega (arith, m))
  by_place (suc k) i l m =
      step i l (λ j lj h. let falls = (facts.built.places goes n none).1 i j lj h in by_place k j lj (omega (arith, falls, m)))

  pub along_references : (i : ℕ) → i < n → P i
  along_references i l = by_place (suc ((facts.built.places goes n none).0 i)) i l (omega arith)
