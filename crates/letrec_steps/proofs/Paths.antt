-- Paths behind one path, and paths before that of a child.
use Rattle.std.proofs.Common.{◌≡◌, inl, inr, ℕ, ◌<◌, refl, arith, List, [], ◌∷◌, ◌++◌}
use Rattle.chw_typing.specs.Paths.{IsEarlier}

pub earlier_behind : (q r s : List ℕ) → IsEarlier (q ++ r) (q ++ s) → IsEarlier r s
earlier_behind [] r s h = h
earlier_behind (i ∷ q) r s (inl l) = absurd (omega (arith, l))
earlier_behind (i ∷ q) r s (inr h) = earlier_behind q r s h.1

pub same_behind : (q r s : List ℕ) → q ++ r ≡ q ++ s → r ≡ s
same_behind [] r s h = h
same_behind (i ∷ q) r s h = same_behind q r s cc

pub nothing_before_root : (r : List ℕ) → IsEarlier r [] → ⊥
nothing_before_root [] h = h
nothing_before_root (i ∷ r) h = h

-- before a child there are the term itself and what is in earlier children
pub data IsBeforeChild (k : ℕ) (r : List ℕ) : Type 0 where
  itself : r ≡ [] → IsBeforeChild k r
  in_child : (j : ℕ) (rest : List ℕ) → j < k → r ≡ j ∷ rest → IsBeforeChild k r

pub before_child : (r : List ℕ) (k : ℕ) → IsEarlier r (k ∷ []) → IsBeforeChild k r
before_child [] k h = itself refl
before_child (j ∷ rest) k (inl l) = in_child j rest l refl
before_child (j ∷ rest) k (inr h) = absurd (nothing_before_root rest h.1)
