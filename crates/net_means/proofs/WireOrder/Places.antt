-- The place of a number in a list, counted from one; zero where it isn't there.
use Rattle.std.specs.Prelude.{slice_index, ◌==◌, if◌then◌else◌}
use Rattle.std.proofs.Common.{◌≡◌, ℕ, zero, suc, ◌<◌, Bool, true, false, List, [], ◌∷◌, length, refl, subst, arith}
use Rattle.std.proofs.lemmas.Bool.{eqb-true, eqb-false}

abbrev pub further : ℕ → ℕ
further zero = zero
further (suc n) = suc (suc n)

abbrev pub counted : List ℕ → ℕ → ℕ
counted [] x = zero
counted (p ∷ ps) x = if p == x then 1 else further (counted ps x)

-- where it says a place, the number stands there
pub record StandsAt (ps : List ℕ) (x k : ℕ) : Type 0 where
  pub within : k < length ps
  pub is : slice_index ps k ≡ x

abbrev pub Place : List ℕ → ℕ → ℕ → Type 0
Place ps x zero = (i : ℕ) → i < length ps → slice_index ps i ≡ x → ⊥
Place ps x (suc k) = StandsAt ps x k

place_first : (p : ℕ) (ps : List ℕ) (x : ℕ) → p ≡ x → Place (p ∷ ps) x 1
place_first p ps x e = record { within = omega arith; is = e }

place_rest : (p : ℕ) (ps : List ℕ) (x n : ℕ) → (p ≡ x → ⊥) → Place ps x n → Place (p ∷ ps) x (further n)
place_rest p ps x zero apart none = λ i l e. other i l e
  where
    other : (i : ℕ) → i < length (p ∷ ps) → slice_index (p ∷ ps) i ≡ x → ⊥
    other zero l e = apart e
    other (suc i) l e = none i (omega (arith, l)) e
place_rest p ps x (suc k) apart at = let l = at.within in record { within = omega (arith, l); is = at.is }

pub place : (ps : List ℕ) (x : ℕ) → Place ps x (counted ps x)
place [] x = λ i l e. omega (arith, l)
place (p ∷ ps) x = split (p == x) refl (place ps x)
  where
    split : (b : Bool) → (p == x) ≡ b → Place ps x (counted ps x) → Place (p ∷ ps) x (if b then 1 else further (counted ps x))
    split true e rest = place_first p ps x (eqb-true p x e)
    split false e rest = place_rest p ps x (counted ps x) (eqb-false p x e) rest

pub counted_at : (ps : List ℕ) (x k : ℕ) → counted ps x ≡ suc k → (k < length ps) × (slice_index ps k ≡ x)
counted_at ps x k e = let at = subst (Place ps x) e (place ps x) in (at.within, at.is)

pub counted_some : (ps : List ℕ) (x i : ℕ) → i < length ps → slice_index ps i ≡ x → 0 < counted ps x
counted_some ps x i l e = split (counted ps x) (place ps x)
  where
    split : (n : ℕ) → Place ps x n → 0 < n
    split zero none = absurd (none i l e)
    split (suc k) at = omega arith
