-- Lists after a push, by their places.
use Rattle.std.proofs.Common.{◌≡◌, ℕ, zero, suc, ◌<◌, ◌⊎◌, inl, inr, List, [], ◌∷◌, ◌++◌, length, set, get_or, Some, None, slice_get, refl, sym, ap, subst, ◌∙◌, arith}
use Rattle.std.proofs.lemmas.Option.{slice_get_read}
use Rattle.share_laws.specs.Shares.{IsAmong}

-- what stands at a place after a push stood there, or is the new one
pub push_cases : {X : Type 0} (xs : List X) (y : X) (k : ℕ) (x : X) → slice_get (xs ++ y ∷ []) k ≡ Some x
    → (slice_get xs k ≡ Some x) ⊎ ((k ≡ length xs) × (y ≡ x))
push_cases [] y zero x e = inr (refl, cc)
push_cases [] y (suc k) x e = absurd (let none : None ≡ Some x = e in cc)
push_cases (z ∷ xs) y zero x e = inl e
push_cases (z ∷ xs) y (suc k) x e = up (push_cases xs y k x e)
  where
    up : (slice_get xs k ≡ Some x) ⊎ ((k ≡ length xs) × (y ≡ x)) → (slice_get xs k ≡ Some x) ⊎ ((suc k ≡ suc (length xs)) × (y ≡ x))
    up (inl h) = inl h
    up (inr h) = inr (ap suc h.0, h.1)

-- what stood at a place stands there after a push
pub push_keeps : {X : Type 0} (xs : List X) (y : X) (k : ℕ) (x : X) → slice_get xs k ≡ Some x → slice_get (xs ++ y ∷ []) k ≡ Some x
push_keeps [] y k x e = absurd (let none : None ≡ Some x = e in cc)
push_keeps (z ∷ xs) y zero x e = e
push_keeps (z ∷ xs) y (suc k) x e = push_keeps xs y k x e

pub push_last : {X : Type 0} (xs : List X) (y : X) → slice_get (xs ++ y ∷ []) (length xs) ≡ Some y
push_last [] y = refl
push_last (z ∷ xs) y = push_last xs y

-- what holds at each place holds after a push, if it holds of the new one
pub each_pushed : {X : Type 0} (P : ℕ → X → Type 0) (xs : List X) (y : X) (n : ℕ) → n ≡ length xs
    → ((k : ℕ) (x : X) → slice_get xs k ≡ Some x → P k x) → P n y
    → (k : ℕ) (x : X) → slice_get (xs ++ y ∷ []) k ≡ Some x → P k x
each_pushed P xs y n long each here k x e = by (push_cases xs y k x e)
  where
    by : (slice_get xs k ≡ Some x) ⊎ ((k ≡ length xs) × (y ≡ x)) → P k x
    by (inl h) = each k x h
    by (inr h) = subst (λ z. P k z) h.1 (subst (λ i. P i y) (long ∙ sym h.0) here)

pub among_push : (xs : List ℕ) (y w : ℕ) → IsAmong xs w → IsAmong (xs ++ y ∷ []) w
among_push xs y w i = (i.0, push_keeps xs y i.0 w i.1)

pub among_last : (xs : List ℕ) (y : ℕ) → IsAmong (xs ++ y ∷ []) y
among_last xs y = (length xs, push_last xs y)

pub among_cases : (xs : List ℕ) (y w : ℕ) → IsAmong (xs ++ y ∷ []) w → IsAmong xs w ⊎ (w ≡ y)
among_cases xs y w i = by (push_cases xs y i.0 w i.1)
  where
    by : (slice_get xs i.0 ≡ Some w) ⊎ ((i.0 ≡ length xs) × (y ≡ w)) → IsAmong xs w ⊎ (w ≡ y)
    by (inl h) = inl (i.0, h)
    by (inr h) = inr (sym h.1)

-- what stands at a place after a write
pub set_same : {X : Type 0} (xs : List X) (i : ℕ) (y : X) → i < length xs → slice_get (set xs i y) i ≡ Some y
set_same [] i y l = absurd (omega (arith, l))
set_same (x ∷ xs) zero y l = refl
set_same (x ∷ xs) (suc i) y l = set_same xs i y (omega (arith, l))

pub set_other : {X : Type 0} (xs : List X) (i k : ℕ) (y : X) → (k ≡ i → ⊥) → slice_get (set xs i y) k ≡ slice_get xs k
set_other [] i k y apart = refl
set_other (x ∷ xs) zero zero y apart = absurd (apart refl)
set_other (x ∷ xs) zero (suc k) y apart = refl
set_other (x ∷ xs) (suc i) zero y apart = refl
set_other (x ∷ xs) (suc i) (suc k) y apart = set_other xs i k y (λ e. apart (ap suc e))

-- what stands at a place of a list that was read
pub item_at : {X : Type 0} (items xs : List X) (i : ℕ) (x : X) → items ≡ xs → i < length items → x ≡ get_or items i x → slice_get xs i ≡ Some x
item_at items xs i x same l e = ap (λ ys. slice_get ys i) (sym same) ∙ slice_get_read items (length items) i x refl l e
