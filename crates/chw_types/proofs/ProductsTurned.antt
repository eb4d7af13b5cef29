-- The order of two sums doesn't matter to their product.
use Rattle.std.proofs.Common.{◌≡◌, ℕ, suc, zero, ◌+◌, ◌*◌, ◌≤◌, Bool, true, false, refl, sym, ap, ◌∙◌, subst, [], ◌∷◌, length, leb, arith, ◌⊎◌, inl, inr}
use Rattle.std.proofs.lemmas.Bool.{leb-true, leb-false}
use Rattle.chw_types.specs.Polynomials.{ended, Monomial, times, same_factors, Summands, by_each, counted, coefficient}
use Rattle.chw_types.specs.Agreement.{Agrees}
use Rattle.chw_types.specs.NormalSums.{AllFrom, IsAscending, IsNormal}
use Rattle.chw_types.proofs.Sums.{over, over_by_each, coefficient_over}
use Rattle.chw_types.proofs.FactorsInOrder.{factor_first, times_left, times_right, times_none}

turned_within : (k : ℕ) (m n : Monomial) → length m + length n ≤ k → IsAscending m → IsAscending n → times m n ≡ times n m
turned_within k [] n l h g = sym (times_none n g)
turned_within k (x ∷ m) [] l h g = times_none (x ∷ m) h
turned_within zero (x ∷ m) (y ∷ n) l h g = absurd (omega arith)
turned_within (suc k) (x ∷ m) (y ∷ n) l h g = by (leb x y) refl (leb y x) refl (turned_within k m (y ∷ n) (omega arith) h.1 g) (turned_within k (x ∷ m) n (omega arith) h g.1)
  where
    by : (b : Bool) → leb x y ≡ b → (c : Bool) → leb y x ≡ c → times m (y ∷ n) ≡ times (y ∷ n) m → times (x ∷ m) n ≡ times n (x ∷ m) → times (x ∷ m) (y ∷ n) ≡ times (y ∷ n) (x ∷ m)
    by true e true f first second =
        let p = leb-true x y e in
        let q = leb-true y x f in
        let is : x ≡ y = omega arith in
        times_left x y m n p h g
        ∙ ap (λ r. x ∷ r) (first ∙ ap (times n) (factor_first y m (subst (λ z. AllFrom z m) is h.0)))
        ∙ (λ i. is i ∷ times n (sym is i ∷ m))
        ∙ sym (times_left y x n m q g h)
    by true e false f first second =
        let p = leb-true x y e in
        let q = leb-false y x f in
        times_left x y m n p h g ∙ ap (λ r. x ∷ r) first ∙ sym (times_right y x n m q g)
    by false e c f first second =
        let p = leb-false x y e in
        times_right x y m n p h ∙ ap (λ r. y ∷ r) second ∙ sym (times_left y x n m (omega arith) g h)

times_turned : (m n : Monomial) → IsAscending m → IsAscending n → times m n ≡ times n m
times_turned m n h g = turned_within (length m + length n) m n (omega arith) h g

over_none : (q : Summands) → over q (λ n. 0) ≡ 0
over_none [] = refl
over_none (t ∷ q) = ap (λ r. t.0 * 0 + r) (over_none q) ∙ (none t.0)
  where
    none : (a : ℕ) → a * 0 + 0 ≡ 0
    none a = omega arith

-- the products with one summand, beside others
row : (s : ℕ × Monomial) (q : Summands) → IsAscending s.1 → IsNormal q → (f h : Monomial → ℕ) → s.0 * over q (λ n. f (times s.1 n)) + over q h ≡ over q (λ n. s.0 * f (times n s.1) + h n)
row s [] a g f h = none s.0
  where
    none : (a : ℕ) → a * 0 + 0 ≡ 0
    none a = omega arith
row s (t ∷ q) a g f h =
    ap (λ m. s.0 * (t.0 * f m + over q (λ n. f (times s.1 n))) + (t.0 * h t.1 + over q h)) (times_turned s.1 t.1 a g.0.2)
    ∙ regroup s.0 t.0 (f (times t.1 s.1)) (h t.1) (over q (λ n. f (times s.1 n))) (over q h)
    ∙ ap (λ r. t.0 * (s.0 * f (times t.1 s.1) + h t.1) + r) (row s q a g.2 f h)
  where
    regroup : (a b x y r o : ℕ) → a * (b * x + r) + (b * y + o) ≡ b * (a * x + y) + (a * r + o)
    regroup a b x y r o = grind arith

over_turned : (p q : Summands) → IsNormal p → IsNormal q → (f : Monomial → ℕ) → over p (λ m. over q (λ n. f (times m n))) ≡ over q (λ n. over p (λ m. f (times n m)))
over_turned [] q h g f = sym (over_none q)
over_turned (s ∷ p) q h g f =
    ap (λ r. s.0 * over q (λ n. f (times s.1 n)) + r) (over_turned p q h.2 g f)
    ∙ row s q h.0.2 g f (λ n. over p (λ m. f (times n m)))

pub product_turned : (p q : Summands) → IsNormal p → IsNormal q → Agrees (by_each p q) (by_each q p)
product_turned p q h g m =
    let at : Monomial → ℕ = λ n. counted (same_factors n m) 1 in
    ap ended
    (coefficient_over (by_each p q) m
    ∙ over_by_each p q at
    ∙ over_turned p q h g at
    ∙ sym (over_by_each q p at)
    ∙ sym (coefficient_over (by_each q p) m))

-- products of equal sums, in either order
pub products_of_equals : (p q r s : Summands) → IsNormal p → IsNormal q → ((p ≡ r) × (q ≡ s)) ⊎ ((p ≡ s) × (q ≡ r)) → Agrees (by_each p q) (by_each r s)
products_of_equals p q r s h g same m = elim same [ inl e ↦ straight e | inr e ↦ turned e ]
  where
    straight : (p ≡ r) × (q ≡ s) → ended (coefficient (by_each p q) m) ≡ ended (coefficient (by_each r s) m)
    straight e = λ i. ended (coefficient (by_each (e.0 i) (e.1 i)) m)

    turned : (p ≡ s) × (q ≡ r) → ended (coefficient (by_each p q) m) ≡ ended (coefficient (by_each r s) m)
    turned e = product_turned p q h g m ∙ (λ i. ended (coefficient (by_each (e.1 i) (e.0 i)) m))
