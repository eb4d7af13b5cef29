-- Naturals as polynomials in their variables, with coefficients in 32 bits.
use Rattle.std.specs.Prelude.{◌≡◌, ◌==◌, ℕ, ◌+◌, ◌*◌, ◌-◌, ◌^◌, Bool, true, false, ◌&&◌, nat_le, if◌then◌else◌, List, [], ◌∷◌, ◌++◌, map, min}
use Rattle.chw_types.specs.TypeTree.{TypeTree, ty_var, nat_lit, nat_sum, nat_product}

-- the greatest natural, at which sums and products end
abbrev pub greatest : ℕ
greatest = 2 ^ 32 - 1

-- a number, or the greatest natural where it is greater
abbrev pub ended : ℕ → ℕ
ended n = min n greatest

-- a product of variables: each as often as it occurs, the least first
abbrev pub Monomial : Type 0
Monomial = List ℕ

-- with one more factor
abbrev pub with_factor : ℕ → Monomial → Monomial
with_factor x [] = x ∷ []
with_factor x (y ∷ m) = if nat_le x y then x ∷ y ∷ m else y ∷ with_factor x m

-- with the factors of another
abbrev pub times : Monomial → Monomial → Monomial
times [] n = n
times (x ∷ m) n = times m (with_factor x n)

abbrev pub same_factors : Monomial → Monomial → Bool
same_factors [] [] = true
same_factors (x ∷ m) (y ∷ n) = (x == y) && same_factors m n
same_factors _ _ = false

-- a sum of numbers times monomials, in which a monomial may stand many times
abbrev pub Summands : Type 0
Summands = List (ℕ × Monomial)

-- each summand times this one
abbrev pub by_one : ℕ × Monomial → Summands → Summands
by_one s q = map (λ t. (s.0 * t.0, times s.1 t.1)) q

-- each summand of one times each of the other
abbrev pub by_each : Summands → Summands → Summands
by_each [] q = []
by_each (s ∷ p) q = by_one s q ++ by_each p q

-- a natural, multiplied out
unfoldable pub multiplied : TypeTree → Summands
multiplied (ty_var x) = (1, x ∷ []) ∷ []
multiplied (nat_lit n) = (n, []) ∷ []
multiplied (nat_sum a b) = multiplied a ++ multiplied b
multiplied (nat_product a b) = by_each (multiplied a) (multiplied b)
multiplied _ = []

abbrev pub counted : Bool → ℕ → ℕ
counted true a = a
counted false a = 0

-- how often a monomial stands in a sum
abbrev pub coefficient : Summands → Monomial → ℕ
coefficient [] m = 0
coefficient (s ∷ p) m = counted (same_factors s.1 m) s.0 + coefficient p m

-- the polynomial of a natural: a coefficient for each monomial. Where a sum or product of coefficients passes the greatest natural,
-- it ends there; ending once, as here, is the same as ending at each step.
abbrev pub poly : TypeTree → Monomial → ℕ
poly t m = ended (coefficient (multiplied t) m)

-- only variables, numerals, sums and products
unfoldable pub is_natural : TypeTree → Bool
is_natural (ty_var x) = true
is_natural (nat_lit n) = true
is_natural (nat_sum a b) = is_natural a && is_natural b
is_natural (nat_product a b) = is_natural a && is_natural b
is_natural _ = false

-- naturals with one polynomial
abbrev pub SameNaturals : TypeTree → TypeTree → Type 0
SameNaturals a b = (m : Monomial) → poly a m ≡ poly b m
