-- The variables of a natural, and those of its polynomial.
use Rattle.std.proofs.Common.{◌≡◌, ℕ, ◌+◌, ◌≤◌, Bool, true, false, ◌⊎◌, inl, inr, refl, ap, subst, [], ◌∷◌, ◌++◌, leb, if◌then◌else◌, arith}
use Rattle.chw_types.specs.TypeTree.{TypeTree, ty_var, nat_lit, nat_sum, nat_product}
use Rattle.chw_types.specs.Polynomials.{ended, Monomial, with_factor, times, same_factors, Summands, by_one, by_each, multiplied, counted, coefficient, is_natural, SameNaturals}
use Rattle.chw_types.proofs.Sums.{same_factors_is, same_factors_self}
use Rattle.type_laws.specs.Standing.{StandsIn, InSums}

-- each factor of the product is such a variable
abbrev Factors : (ℕ → Type 0) → Monomial → Type 0
Factors P [] = Unit {0}
Factors P (x ∷ m) = P x × Factors P m

-- each factor of each summand
abbrev EachFactor : (ℕ → Type 0) → Summands → Type 0
EachFactor P [] = Unit {0}
EachFactor P (s ∷ p) = Factors P s.1 × EachFactor P p

factors_more : (P Q : ℕ → Type 0) → ((x : ℕ) → P x → Q x) → (m : Monomial) → Factors P m → Factors Q m
factors_more P Q f [] h = tt
factors_more P Q f (x ∷ m) h = (f x h.0, factors_more P Q f m h.1)

each_more : (P Q : ℕ → Type 0) → ((x : ℕ) → P x → Q x) → (p : Summands) → EachFactor P p → EachFactor Q p
each_more P Q f [] h = tt
each_more P Q f (s ∷ p) h = (factors_more P Q f s.1 h.0, each_more P Q f p h.1)

each_append : (P : ℕ → Type 0) (p q : Summands) → EachFactor P p → EachFactor P q → EachFactor P (p ++ q)
each_append P [] q h g = g
each_append P (s ∷ p) q h g = (h.0, each_append P p q h.1 g)

one_more : (P : ℕ → Type 0) (x : ℕ) (m : Monomial) → P x → Factors P m → Factors P (with_factor x m)
one_more P x [] h g = (h, tt)
one_more P x (y ∷ m) h g = by (leb x y) (one_more P x m h g.1)
  where
    by : (b : Bool) → Factors P (with_factor x m) → Factors P (if b then x ∷ y ∷ m else y ∷ with_factor x m)
    by true rest = (h, g)
    by false rest = (g.0, rest)

both_factors : (P : ℕ → Type 0) (m n : Monomial) → Factors P m → Factors P n → Factors P (times m n)
both_factors P [] n h g = g
both_factors P (x ∷ m) n h g = both_factors P m (with_factor x n) h.1 (one_more P x n h.0 g)

each_by_one : (P : ℕ → Type 0) (s : ℕ × Monomial) (q : Summands) → Factors P s.1 → EachFactor P q → EachFactor P (by_one s q)
each_by_one P s [] h g = tt
each_by_one P s (t ∷ q) h g = (both_factors P s.1 t.1 h g.0, each_by_one P s q h g.1)

each_by_each : (P : ℕ → Type 0) (p q : Summands) → EachFactor P p → EachFactor P q → EachFactor P (by_each p q)
each_by_each P [] q h g = tt
each_by_each P (s ∷ p) q h g = each_append P (by_one s q) (by_each p q) (each_by_one P s q h.0 g) (each_by_each P p q h.1 g)

-- the factors of a natural that is multiplied out stand in it
standing : (t : TypeTree) → EachFactor (StandsIn t) (multiplied t)
unfolding multiplied
standing (ty_var x) = ((refl, tt), tt)
standing (nat_lit n) = (tt, tt)
standing (nat_sum a b) =
    each_append (StandsIn (nat_sum a b)) (multiplied a) (multiplied b)
    (each_more (StandsIn a) (StandsIn (nat_sum a b)) (λ x h. inl h) (multiplied a) (standing a))
    (each_more (StandsIn b) (StandsIn (nat_sum a b)) (λ x h. inr h) (multiplied b) (standing b))
standing (nat_product a b) =
    each_by_each (StandsIn (nat_product a b)) (multiplied a) (multiplied b)
    (each_more (StandsIn a) (StandsIn (nat_product a b)) (λ x h. inl h) (multiplied a) (standing a))
    (each_more (StandsIn b) (StandsIn (nat_product a b)) (λ x h. inr h) (multiplied b) (standing b))
standing _ = tt

-- what has a coefficient is one of the summands
at_coefficient : (P : ℕ → Type 0) (p : Summands) (m : Monomial) → EachFactor P p → 1 ≤ coefficient p m → Factors P m
at_coefficient P [] m h l = absurd (omega arith)
at_coefficient P (s ∷ p) m h l = by (same_factors s.1 m) refl l (λ l. at_coefficient P p m h.1 l)
  where
    by : (b : Bool) → same_factors s.1 m ≡ b → 1 ≤ counted b s.0 + coefficient p m → (1 ≤ coefficient p m → Factors P m) → Factors P m
    by true e l rest = subst (Factors P) (same_factors_is s.1 m e) h.0
    by false e l rest = rest (omega arith)

once_there : (x : ℕ) → coefficient (multiplied (ty_var x)) (x ∷ []) ≡ 1
unfolding multiplied
once_there x = ap (λ b. counted b 1 + 0) (same_factors_self (x ∷ []))

-- a variable with whose polynomial a natural agrees stands in it
pub variable_stands : (x : ℕ) (t : TypeTree) → SameNaturals (ty_var x) t → StandsIn t x
variable_stands x t h =
    let e : ended (coefficient (multiplied (ty_var x)) (x ∷ [])) ≡ ended (coefficient (multiplied t) (x ∷ [])) = h (x ∷ []) in
    let once : coefficient (multiplied (ty_var x)) (x ∷ []) ≡ 1 = once_there x in
    let l : 1 ≤ coefficient (multiplied t) (x ∷ []) = omega arith in
    (at_coefficient (StandsIn t) (multiplied t) (x ∷ []) (standing t) l).0

-- a natural is a variable, or its variables stand in a sum or product
pub variable_or_sum : (t : TypeTree) → is_natural t ≡ true → ((x : ℕ) × (t ≡ ty_var x)) ⊎ ((y : ℕ) → StandsIn t y → InSums t y)
unfolding is_natural
variable_or_sum (ty_var x) h = inl (x, refl)
variable_or_sum (nat_lit n) h = inr (λ y s. absurd s)
variable_or_sum (nat_sum a b) h = inr (λ y s. inl s)
variable_or_sum (nat_product a b) h = inr (λ y s. inl s)
variable_or_sum _ h = absurd (cc)
