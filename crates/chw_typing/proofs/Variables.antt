-- Each variable of a natural without parts that don't matter is a factor in its polynomial.
use Rattle.std.proofs.Common.{◌≡◌, ℕ, ◌≤◌, Bool, true, false, ◌⊎◌, inl, inr, if◌then◌else◌, refl, subst, [], ◌∷◌, leb, arith}
use Rattle.chw_types.specs.TypeTree.{TypeTree}
use Rattle.chw_types.specs.Polynomials.{Monomial, with_factor, times, multiplied, coefficient}
use Rattle.type_laws.specs.Standing.{StandsIn}
use Rattle.chw_typing.proofs.Longest.{there_first, there_by_each, reached}
use Rattle.chw_typing.proofs.Reduced.{coefficient_append}
use Rattle.chw_typing.proofs.Tight.{Tight, tight_var, tight_numeral, tight_sum, tight_product}

-- the variable is a factor of the product
abbrev pub IsFactor : ℕ → Monomial → Type 0
IsFactor y [] = ⊥
IsFactor y (x ∷ m) = (x ≡ y) ⊎ IsFactor y m

new_factor : (x : ℕ) (m : Monomial) → IsFactor x (with_factor x m)
new_factor x [] = inl refl
new_factor x (y ∷ m) = by (leb x y) (new_factor x m)
  where
    by : (b : Bool) → IsFactor x (with_factor x m) → IsFactor x (if b then x ∷ y ∷ m else y ∷ with_factor x m)
    by true h = inl refl
    by false h = inr h

old_factor : (y x : ℕ) (m : Monomial) → IsFactor y m → IsFactor y (with_factor x m)
old_factor y x [] h = absurd h
old_factor y x (z ∷ m) h = by (leb x z) h (λ g. old_factor y x m g)
  where
    by : (b : Bool) → (z ≡ y) ⊎ IsFactor y m → (IsFactor y m → IsFactor y (with_factor x m)) → IsFactor y (if b then x ∷ z ∷ m else z ∷ with_factor x m)
    by true g rest = inr g
    by false (inl e) rest = inl e
    by false (inr g) rest = inr (rest g)

right_factor : (y : ℕ) (m n : Monomial) → IsFactor y n → IsFactor y (times m n)
right_factor y [] n h = h
right_factor y (x ∷ m) n h = right_factor y m (with_factor x n) (old_factor y x n h)

left_factor : (y : ℕ) (m n : Monomial) → IsFactor y m → IsFactor y (times m n)
left_factor y [] n h = absurd h
left_factor y (x ∷ m) n (inl e) = right_factor y m (with_factor x n) (subst (λ z. IsFactor z (with_factor x n)) e (new_factor x n))
left_factor y (x ∷ m) n (inr h) = left_factor y m (with_factor x n) h

-- the variable is a factor of a product that stands in the natural
abbrev pub Occurs : TypeTree → ℕ → Type 0
Occurs t y = (m : Monomial) × (1 ≤ coefficient (multiplied t) m) × IsFactor y m

pub occurs : {t : TypeTree} → Tight t → (y : ℕ) → StandsIn t y → Occurs t y
unfolding multiplied
occurs (tight_var {x = x}) y s = (x ∷ [], there_first (x ∷ []) (x ∷ []) 1 0 refl (omega arith), inl s)
occurs (tight_numeral l) y s = absurd s
occurs (tight_sum {a = a} {b = b} h g) y (inl s) =
    let at = occurs h y s in
    let is = coefficient_append (multiplied a) (multiplied b) at.0 in
    let c = at.1 in
    (at.0, omega arith, at.2)
occurs (tight_sum {a = a} {b = b} h g) y (inr s) =
    let at = occurs g y s in
    let is = coefficient_append (multiplied a) (multiplied b) at.0 in
    let c = at.1 in
    (at.0, omega arith, at.2)
occurs (tight_product {a = a} {b = b} h g i j) y (inl s) =
    let at = occurs h y s in
    let other = reached g in
    (times at.0 other.0, there_by_each (multiplied a) (multiplied b) at.0 other.0 at.1 other.1, left_factor y at.0 other.0 at.2)
occurs (tight_product {a = a} {b = b} h g i j) y (inr s) =
    let at = occurs g y s in
    let other = reached h in
    (times other.0 at.0, there_by_each (multiplied a) (multiplied b) other.0 at.0 other.1 at.1, right_factor y other.0 at.0 at.2)
