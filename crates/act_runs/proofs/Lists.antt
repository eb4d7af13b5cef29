-- Lists with one item changed, or with one more at the end.
use Rattle.std.specs.Prelude.{slice_get}
use Rattle.std.proofs.Common.{◌≡◌, ◌⊎◌, ◌<◌, inl, inr, ℕ, zero, suc, List, [], ◌∷◌, ◌++◌, length, set, Some, refl, ap, ◌∙◌, subst, arith, map}
use Rattle.chw_terms.specs.declared.scene.Made.{Made}
use Rattle.rewriting.specs.Origins.{made_of}

pub set_found : {A : Type 0} (P : ℕ → A → Type 0) (xs : List A) (n : ℕ) (y : A) → ((m : ℕ) (x : A) → slice_get xs m ≡ Some x → P m x) → P n y → (m : ℕ) (x : A) → slice_get (set xs n y) m ≡ Some x → P m x
set_found P [] zero y h k m x e = absurd cc
set_found P [] (suc n) y h k m x e = absurd cc
set_found P (z ∷ xs) zero y h k zero x e = let is : y ≡ x = cc in subst (P 0) is k
set_found P (z ∷ xs) zero y h k (suc m) x e = h (suc m) x e
set_found P (z ∷ xs) (suc n) y h k zero x e = h 0 x e
set_found P (z ∷ xs) (suc n) y h k (suc m) x e = set_found (λ i. P (suc i)) xs n y (λ i. h (suc i)) k m x e

pub same_made : (xs : List Made) (n : ℕ) (it y : Made) → slice_get xs n ≡ Some it → made_of y ≡ made_of it → map made_of (set xs n y) ≡ map made_of xs
same_made [] n it y e is = absurd cc
same_made (x ∷ xs) zero it y e is = let same : it ≡ x = cc in ap (λ m. m ∷ map made_of xs) (is ∙ ap made_of same)
same_made (x ∷ xs) (suc n) it y e is = ap (λ ms. made_of x ∷ ms) (same_made xs n it y e is)

-- the item that was put
pub set_there : {A : Type 0} (xs : List A) (n : ℕ) (x y : A) → slice_get xs n ≡ Some x → slice_get (set xs n y) n ≡ Some y
set_there [] n x y e = absurd cc
set_there (z ∷ xs) zero x y e = refl
set_there (z ∷ xs) (suc n) x y e = set_there xs n x y e

-- one of them is an older one, or the one at the end
pub older_or_last : {A : Type 0} (xs : List A) (y : A) (m : ℕ) (x : A) → slice_get (xs ++ y ∷ []) m ≡ Some x → (slice_get xs m ≡ Some x) ⊎ (y ≡ x)
older_or_last [] y zero x e = inr cc
older_or_last [] y (suc m) x e = absurd cc
older_or_last (z ∷ xs) y zero x e = inl e
older_or_last (z ∷ xs) y (suc m) x e = older_or_last xs y m x e

pub item_there : {A : Type 0} (xs : List A) (j : ℕ) → j < length xs → (x : A) × (slice_get xs j ≡ Some x)
item_there [] j l = absurd (omega (arith, l))
item_there (x ∷ xs) zero l = (x, refl)
item_there (x ∷ xs) (suc j) l = item_there xs j (omega (arith, l))

pub item_within : {A : Type 0} (xs : List A) (j : ℕ) (x : A) → slice_get xs j ≡ Some x → j < length xs
item_within [] j x e = absurd cc
item_within (y ∷ xs) zero x e = omega arith
item_within (y ∷ xs) (suc j) x e = let l = item_within xs j x e in omega (arith, l)
