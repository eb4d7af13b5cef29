-- The degree of a natural is no less than that of its polynomial: so where a product of many variables has a coefficient, what is the same has
-- no kind.
use Rattle.std.proofs.Common.{◌≡◌, ℕ, suc, ◌+◌, ◌≤◌, max, Bool, true, false, if◌then◌else◌, refl, ap, subst, List, [], ◌∷◌, ◌++◌, length, leb, arith}
use Rattle.chw_types.specs.declared.kind.Kind.{Kind}
use Rattle.chw_types.specs.declared.declarations.Data.{Data}
use Rattle.chw_types.specs.TypeTree.{TypeTree, ty_var, nat_lit, nat_sum, nat_product}
use Rattle.chw_types.specs.Kinds.{degree, most_degree, KindOf, kind_var, kind_nat, kind_sum, kind_product, kind_domain, kind_scalar, kind_vector, kind_data, kind_fun, kind_signal, kind_for_all}
use Rattle.chw_types.specs.Polynomials.{ended, Monomial, with_factor, times, same_factors, Summands, by_one, by_each, multiplied, counted, coefficient, SameNaturals}
use Rattle.chw_types.proofs.Sums.{same_factors_is}

-- no product in the sum has more factors
abbrev AtMost : ℕ → Summands → Type 0
AtMost n [] = Unit {0}
AtMost n (s ∷ p) = (length s.1 ≤ n) × AtMost n p

at_most_more : (m n : ℕ) (p : Summands) → m ≤ n → AtMost m p → AtMost n p
at_most_more m n [] l h = tt
at_most_more m n (s ∷ p) l h = (let g = h.0 in omega arith, at_most_more m n p l h.1)

at_most_append : (n : ℕ) (p q : Summands) → AtMost n p → AtMost n q → AtMost n (p ++ q)
at_most_append n [] q h g = g
at_most_append n (s ∷ p) q h g = (h.0, at_most_append n p q h.1 g)

with_factor_length : (x : ℕ) (m : Monomial) → length (with_factor x m) ≡ suc (length m)
with_factor_length x [] = refl
with_factor_length x (y ∷ m) = by (leb x y) (with_factor_length x m)
  where
    by : (b : Bool) → length (with_factor x m) ≡ suc (length m) → length (if b then x ∷ y ∷ m else y ∷ with_factor x m) ≡ suc (suc (length m))
    by true e = refl
    by false e = ap suc e

times_length : (m n : Monomial) → length (times m n) ≡ length m + length n
times_length [] n = omega arith
times_length (x ∷ m) n = let e = times_length m (with_factor x n) in let f = with_factor_length x n in omega arith

at_most_by_one : (a b : ℕ) (s : ℕ × Monomial) (q : Summands) → length s.1 ≤ a → AtMost b q → AtMost (a + b) (by_one s q)
at_most_by_one a b s [] l h = tt
at_most_by_one a b s (t ∷ q) l h = (let e = times_length s.1 t.1 in let g = h.0 in omega arith, at_most_by_one a b s q l h.1)

at_most_by_each : (a b : ℕ) (p q : Summands) → AtMost a p → AtMost b q → AtMost (a + b) (by_each p q)
at_most_by_each a b [] q h g = tt
at_most_by_each a b (s ∷ p) q h g = at_most_append (a + b) (by_one s q) (by_each p q) (at_most_by_one a b s q h.0 g) (at_most_by_each a b p q h.1 g)

-- a natural, multiplied out, has no product of more factors than its degree
at_most_degree : (t : TypeTree) → AtMost (degree t) (multiplied t)
unfolding multiplied
at_most_degree (ty_var x) = (omega arith, tt)
at_most_degree (nat_lit n) = (omega arith, tt)
at_most_degree (nat_sum a b) =
    at_most_append (max (degree a) (degree b)) (multiplied a) (multiplied b)
    (at_most_more (degree a) (max (degree a) (degree b)) (multiplied a) (omega arith) (at_most_degree a))
    (at_most_more (degree b) (max (degree a) (degree b)) (multiplied b) (omega arith) (at_most_degree b))
at_most_degree (nat_product a b) = at_most_by_each (degree a) (degree b) (multiplied a) (multiplied b) (at_most_degree a) (at_most_degree b)
at_most_degree _ = tt

counted_length : (n : ℕ) (p : Summands) (m : Monomial) → AtMost n p → 1 ≤ coefficient p m → length m ≤ n
counted_length n [] m h l = absurd (omega arith)
counted_length n (s ∷ p) m h l = by (same_factors s.1 m) refl l (λ l. counted_length n p m h.1 l)
  where
    by : (b : Bool) → same_factors s.1 m ≡ b → 1 ≤ counted b s.0 + coefficient p m → (1 ≤ coefficient p m → length m ≤ n) → length m ≤ n
    by true e l rest = subst (λ k. length k ≤ n) (same_factors_is s.1 m e) h.0
    by false e l rest = rest (omega arith)

-- what has a kind has no degree above the greatest
kinded_degree : {datas : List Data} {domains : ℕ} {scope : List Kind} {t : TypeTree} {k : Kind} → KindOf datas domains scope t k → degree t ≤ most_degree
kinded_degree (kind_var e) = omega arith
kinded_degree kind_nat = omega arith
kinded_degree (kind_sum d e small) = small
kinded_degree (kind_product d e small) = small
kinded_degree (kind_domain l) = omega arith
kinded_degree (kind_scalar d) = omega arith
kinded_degree (kind_vector d e o) = omega arith
kinded_degree (kind_data e ds) = omega arith
kinded_degree (kind_fun d e o) = omega arith
kinded_degree (kind_signal d e) = omega arith
kinded_degree (kind_for_all d o) = omega arith

-- what has the polynomial of a natural with a longer product has no kind
pub too_long : {datas : List Data} {domains : ℕ} {scope : List Kind} {u : TypeTree} {k : Kind} (t : TypeTree) (m : Monomial) → 1 ≤ coefficient (multiplied t) m → 5 ≤ length m → SameNaturals t u → KindOf datas domains scope u k → ⊥
too_long {u = u} t m l g p d =
    let e : ended (coefficient (multiplied t) m) ≡ ended (coefficient (multiplied u) m) = p m in
    let there : 1 ≤ coefficient (multiplied u) m = omega arith in
    let long = counted_length (degree u) (multiplied u) m (at_most_degree u) there in
    let small = kinded_degree d in
    absurd (omega arith)
