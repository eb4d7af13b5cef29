-- Paths that go off to the left of another.
use Rattle.std.proofs.Common.{◌≡◌, ◌≢◌, ◌⊎◌, inl, inr, ℕ, ◌<◌, ◌≤◌, sym, refl, arith}
use Rattle.std.proofs.Common.{List, [], ◌∷◌, ◌++◌}
use Rattle.std.proofs.lemmas.Bool.{cases_lt, cases_eq}
use Rattle.chw_typing.specs.Paths.{IsEarlier}
use Rattle.step_order.specs.Sought.{IsSoughtPath}

-- where the paths part, the first one goes to an earlier child
abbrev pub IsLeft : List ℕ → List ℕ → Type 0
IsLeft [] p = ⊥
IsLeft (i ∷ q) [] = ⊥
IsLeft (i ∷ q) (j ∷ p) = (i < j) ⊎ ((i ≡ j) × IsLeft q p)

pub nothing_left_of_root : (q : List ℕ) → IsLeft q [] → ⊥
nothing_left_of_root [] l = l
nothing_left_of_root (i ∷ q) l = l

-- behind a path that both go
pub left_of_rest : (p q r : List ℕ) → IsLeft (p ++ q) (p ++ r) → IsLeft q r
left_of_rest [] q r l = l
left_of_rest (i ∷ p) q r (inl l) = absurd (omega (arith, l))
left_of_rest (i ∷ p) q r (inr l) = left_of_rest p q r l.1

-- what is below a child is earlier only where the child is, or where the rest is
same_child : (i j : ℕ) (q p : List ℕ)
    → j ≤ i → (IsEarlier q p → ⊥) → IsEarlier (i ∷ q) (j ∷ p) → ⊥
same_child i j q p l n (inl k) = omega (arith, l, k)
same_child i j q p l n (inr h) = n h.1

later_child : (i j : ℕ) (q p : List ℕ) → j ≤ i → i ≢ j → IsEarlier (i ∷ q) (j ∷ p) → ⊥
later_child i j q p l n (inl k) = omega (arith, l, k)
later_child i j q p l n (inr h) = n h.0

below_child : (i j : ℕ) (q p : List ℕ)
    → (i < j) ⊎ (j ≤ i) → (i ≡ j) ⊎ (i ≢ j) → IsSoughtPath q p ⊎ IsLeft q p
    → IsSoughtPath (i ∷ q) (j ∷ p) ⊎ IsLeft (i ∷ q) (j ∷ p)
below_child i j q p (inl l) e d = inr (inl l)
below_child i j q p (inr l) (inl e) (inl (inl n)) = inl (inl (same_child i j q p l n))
below_child i j q p (inr l) (inl e) (inl (inr r)) = inl (inr (r.0, λ k. sym e k ∷ r.1 k))
below_child i j q p (inr l) (inl e) (inr h) = inr (inr (e, h))
below_child i j q p (inr l) (inr n) d = inl (inl (later_child i j q p l n))

-- a place is sought from another one on, or it is left of it
pub sought_or_left : (q p : List ℕ) → IsSoughtPath q p ⊎ IsLeft q p
sought_or_left [] p = inl (inr (p, refl))
sought_or_left (i ∷ q) [] = inl (inl (λ h. h))
sought_or_left (i ∷ q) (j ∷ p) =
    below_child i j q p (cases_lt i j) (cases_eq i j) (sought_or_left q p)
