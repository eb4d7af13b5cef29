-- A natural without parts that don't matter has a product of as many variables as its degree.
use Rattle.std.proofs.Common.{◌≡◌, ℕ, suc, zero, ◌+◌, ◌*◌, ◌≤◌, Bool, true, false, ◌⊎◌, inl, inr, if◌then◌else◌, refl, sym, ap, ◌∙◌, subst, [], ◌∷◌, length, leb, arith}
use Rattle.std.proofs.lemmas.Bool.{leb-true, leb-false}
use Rattle.chw_types.specs.TypeTree.{TypeTree, nat_sum}
use Rattle.chw_types.specs.Kinds.{degree}
use Rattle.chw_types.specs.Polynomials.{Monomial, with_factor, times, same_factors, Summands, by_one, by_each, multiplied, counted, coefficient}
use Rattle.chw_types.proofs.Sums.{same_factors_is, same_factors_self}
use Rattle.chw_typing.proofs.Reduced.{coefficient_append}
use Rattle.chw_typing.proofs.Tight.{Tight, tight_var, tight_numeral, tight_sum, tight_product}

with_factor_length : (x : ℕ) (m : Monomial) → length (with_factor x m) ≡ suc (length m)
with_factor_length x [] = refl
with_factor_length x (y ∷ m) = by (leb x y) (with_factor_length x m)
  where
    by : (b : Bool) → length (with_factor x m) ≡ suc (length m) → length (if b then x ∷ y ∷ m else y ∷ with_factor x m) ≡ suc (suc (length m))
    by true e = refl
    by false e = ap suc e

times_length : (m n : Monomial) → length (times m n) ≡ length m + length n
times_length [] n = omega arith
times_length (x ∷ m) n = let e = times_length m (with_factor x n) in let f = with_factor_length x n in omega arith

one_by_one : (a b : ℕ) → 1 ≤ a → 1 ≤ b → 1 ≤ a * b
one_by_one (suc a) (suc b) h g = grind arith
one_by_one zero b h g = absurd (omega arith)
one_by_one (suc a) zero h g = absurd (omega arith)

pub there_first : (n m : Monomial) (c r : ℕ) → n ≡ m → 1 ≤ c → 1 ≤ counted (same_factors n m) c + r
there_first n m c r e l = subst (λ b. 1 ≤ counted b c + r) (sym (ap (λ k. same_factors k m) e ∙ same_factors_self m)) (omega arith)

there_later : (b : Bool) (c r : ℕ) → 1 ≤ r → 1 ≤ counted b c + r
there_later true c r l = omega arith
there_later false c r l = omega arith

-- a product that stands in a sum is the first one's, or stands in the rest
abbrev FirstOrRest : ℕ × Monomial → Monomial → ℕ → Type 0
FirstOrRest s m r = ((s.1 ≡ m) × (1 ≤ s.0)) ⊎ (1 ≤ r)

first_or_rest : (s : ℕ × Monomial) (m : Monomial) (r : ℕ) → 1 ≤ counted (same_factors s.1 m) s.0 + r → FirstOrRest s m r
first_or_rest s m r l = at (same_factors s.1 m) refl l
  where
    split : (c : ℕ) → 1 ≤ c + r → (1 ≤ c) ⊎ (1 ≤ r)
    split zero h = inr (omega arith)
    split (suc c) h = inl (omega arith)

    at : (b : Bool) → same_factors s.1 m ≡ b → 1 ≤ counted b s.0 + r → FirstOrRest s m r
    at true e h = elim (split s.0 h) [ inl f ↦ inl (same_factors_is s.1 m e, f) | inr f ↦ inr f ]
    at false e h = inr (omega arith)

there_by_one : (s : ℕ × Monomial) (q : Summands) (n : Monomial) → 1 ≤ s.0 → 1 ≤ coefficient q n → 1 ≤ coefficient (by_one s q) (times s.1 n)
there_by_one s [] n h l = absurd (omega arith)
there_by_one s (t ∷ q) n h l = at (first_or_rest t n (coefficient q n) l) (λ g. there_by_one s q n h g)
  where
    at : FirstOrRest t n (coefficient q n) → (1 ≤ coefficient q n → 1 ≤ coefficient (by_one s q) (times s.1 n)) → 1 ≤ coefficient (by_one s (t ∷ q)) (times s.1 n)
    at (inl f) rest = there_first (times s.1 t.1) (times s.1 n) (s.0 * t.0) (coefficient (by_one s q) (times s.1 n)) (ap (times s.1) f.0) (one_by_one s.0 t.0 h f.1)
    at (inr f) rest = there_later (same_factors (times s.1 t.1) (times s.1 n)) (s.0 * t.0) (coefficient (by_one s q) (times s.1 n)) (rest f)

-- a product of what stands in one sum and of what stands in the other stands in their product
pub there_by_each : (p q : Summands) (m n : Monomial) → 1 ≤ coefficient p m → 1 ≤ coefficient q n → 1 ≤ coefficient (by_each p q) (times m n)
there_by_each [] q m n h l = absurd (omega arith)
there_by_each (s ∷ p) q m n h l = at (first_or_rest s m (coefficient p m) h) (λ g. there_by_each p q m n g l)
  where
    sum : coefficient (by_each (s ∷ p) q) (times m n) ≡ coefficient (by_one s q) (times m n) + coefficient (by_each p q) (times m n)
    sum = coefficient_append (by_one s q) (by_each p q) (times m n)

    at : FirstOrRest s m (coefficient p m) → (1 ≤ coefficient p m → 1 ≤ coefficient (by_each p q) (times m n)) → 1 ≤ coefficient (by_each (s ∷ p) q) (times m n)
    at (inl f) rest =
        let here : 1 ≤ coefficient (by_one s q) (times m n) = subst (λ k. 1 ≤ coefficient (by_one s q) (times k n)) f.0 (there_by_one s q n f.1 l) in
        omega (arith, sum)
    at (inr f) rest = let later = rest f in omega (arith, sum)

-- a product of so many variables stands in the natural
abbrev pub IsReached : TypeTree → Type 0
IsReached t = (m : Monomial) × (1 ≤ coefficient (multiplied t) m) × (length m ≡ degree t)

reach_sum : (a b : TypeTree) → IsReached a → IsReached b → IsReached (nat_sum a b)
unfolding multiplied
reach_sum a b h g = at (leb (degree a) (degree b)) refl
  where
    at : (x : Bool) → leb (degree a) (degree b) ≡ x → IsReached (nat_sum a b)
    at true e = let l = leb-true (degree a) (degree b) e in let is = coefficient_append (multiplied a) (multiplied b) g.0 in
        let c = g.1 in let d = g.2 in (g.0, omega arith, omega arith)
    at false e = let l = leb-false (degree a) (degree b) e in let is = coefficient_append (multiplied a) (multiplied b) h.0 in
        let c = h.1 in let d = h.2 in (h.0, omega arith, omega arith)

pub reached : {t : TypeTree} → Tight t → IsReached t
unfolding multiplied
reached (tight_var {x = x}) = (x ∷ [], there_first (x ∷ []) (x ∷ []) 1 0 refl (omega arith), refl)
reached (tight_numeral {n = n} l) = ([], omega arith, refl)
reached (tight_sum {a = a} {b = b} h g) = reach_sum a b (reached h) (reached g)
reached (tight_product {a = a} {b = b} h g i j) =
    let left = reached h in
    let right = reached g in
    let c = left.2 in
    let d = right.2 in
    let e = times_length left.0 right.0 in
    (times left.0 right.0, there_by_each (multiplied a) (multiplied b) left.0 right.0 left.1 right.1, omega arith)
