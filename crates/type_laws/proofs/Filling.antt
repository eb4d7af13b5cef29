-- A natural in which naturals were put for the variables, multiplied out.
use Rattle.std.proofs.Common.{◌≡◌, ℕ, ◌+◌, ◌*◌, refl, sym, ap, ◌∙◌, [], ◌∷◌, leb, Bool, true, false, arith}
use Rattle.std.proofs.lemmas.Bool.{leb-true}
use Rattle.chw_types.specs.TypeTree.{TypeTree, ty_var, nat_lit, nat_sum, nat_product}
use Rattle.chw_types.specs.TypeMoves.{Substitution, sub}
use Rattle.chw_types.specs.Polynomials.{greatest, ended, Monomial, with_factor, times, same_factors, Summands, by_each, multiplied, counted, SameNaturals}
use Rattle.chw_types.proofs.Sums.{over, over_append, over_by_each, coefficient_over, agree_over, over_agree}
use Rattle.type_laws.proofs.Factors.{before, behind, times_times, times_turned}

over_none : (p : Summands) → over p (λ m. 0) ≡ 0
over_none [] = refl
over_none (s ∷ p) = ap (λ r. s.0 * 0 + r) (over_none p) ∙ none s.0
  where
    none : (a : ℕ) → a * 0 + 0 ≡ 0
    none a = omega arith

over_scaled_sum : (a : ℕ) (p : Summands) (f g : Monomial → ℕ) → over p (λ m. a * f m + g m) ≡ a * over p f + over p g
over_scaled_sum a [] f g = none a
  where
    none : (a : ℕ) → 0 ≡ a * 0 + 0
    none a = omega arith
over_scaled_sum a (s ∷ p) f g =
    ap (λ r. s.0 * (a * f s.1 + g s.1) + r) (over_scaled_sum a p f g)
    ∙ regroup a s.0 (f s.1) (g s.1) (over p f) (over p g)
  where
    regroup : (a c x y r s : ℕ) → c * (a * x + y) + (a * r + s) ≡ a * (c * x + r) + (c * y + s)
    regroup a c x y r s = grind arith

-- the order of two sums
swap : (p q : Summands) (f : Monomial → Monomial → ℕ) → over p (λ m. over q (λ n. f m n)) ≡ over q (λ n. over p (λ m. f m n))
swap [] q f = sym (over_none q)
swap (s ∷ p) q f =
    ap (λ r. s.0 * over q (f s.1) + r) (swap p q f)
    ∙ sym (over_scaled_sum s.0 q (f s.1) (λ n. over p (λ m. f m n)))

single : (n : ℕ) → 1 * n + 0 ≡ n
single n = omega arith

-- the product with no variable at all changes nothing
unit_right : (t : TypeTree) (f : Monomial → ℕ) → over (multiplied t) (λ n. f (times n [])) ≡ over (multiplied t) f
unfolding multiplied
unit_right (ty_var x) f = refl
unit_right (nat_lit n) f = refl
unit_right (nat_sum a b) f =
    over_append (multiplied a) (multiplied b) (λ n. f (times n []))
    ∙ (λ i. unit_right a f i + unit_right b f i)
    ∙ sym (over_append (multiplied a) (multiplied b) f)
unit_right (nat_product a b) f =
    over_by_each (multiplied a) (multiplied b) (λ n. f (times n []))
    ∙ (λ i. over (multiplied a) (λ m. over (multiplied b) (λ n. f (times_times m n [] i))))
    ∙ (λ i. over (multiplied a) (λ m. unit_right b (λ n. f (times m n)) i))
    ∙ sym (over_by_each (multiplied a) (multiplied b) f)
unit_right _ f = refl

-- what is put for the variables of a product, multiplied out
abbrev pub product_of : Substitution → Monomial → Summands
product_of σ [] = (1, []) ∷ []
product_of σ (x ∷ m) = by_each (multiplied (σ x)) (product_of σ m)

one_factor : (σ : Substitution) (x : ℕ) (f : Monomial → ℕ) → over (product_of σ (x ∷ [])) f ≡ over (multiplied (σ x)) f
one_factor σ x f =
    over_by_each (multiplied (σ x)) (product_of σ []) f
    ∙ (λ i. over (multiplied (σ x)) (λ m. single (f (times m [])) i))
    ∙ unit_right (σ x) f

product_factor : (σ : Substitution) (x : ℕ) (m : Monomial) (f : Monomial → ℕ) → over (product_of σ (with_factor x m)) f ≡ over (product_of σ (x ∷ m)) f
product_factor σ x [] f = refl
product_factor σ x (y ∷ m) f = by (leb x y) refl (λ g. product_factor σ x m g)
  where
    deeper : ((g : Monomial → ℕ) → over (product_of σ (with_factor x m)) g ≡ over (product_of σ (x ∷ m)) g) → over (product_of σ (y ∷ with_factor x m)) f ≡ over (product_of σ (x ∷ y ∷ m)) f
    deeper rest =
        over_by_each (multiplied (σ y)) (product_of σ (with_factor x m)) f
        ∙ (λ i. over (multiplied (σ y)) (λ k. rest (λ l. f (times k l)) i))
        ∙ (λ i. over (multiplied (σ y)) (λ k. over_by_each (multiplied (σ x)) (product_of σ m) (λ l. f (times k l)) i))
        ∙ (λ i. over (multiplied (σ y)) (λ k. over (multiplied (σ x)) (λ j. over (product_of σ m) (λ l. f (times_turned k j l i)))))
        ∙ swap (multiplied (σ y)) (multiplied (σ x)) (λ k j. over (product_of σ m) (λ l. f (times j (times k l))))
        ∙ (λ i. over (multiplied (σ x)) (λ j. sym (over_by_each (multiplied (σ y)) (product_of σ m) (λ l. f (times j l))) i))
        ∙ sym (over_by_each (multiplied (σ x)) (product_of σ (y ∷ m)) f)

    by : (b : Bool) → leb x y ≡ b → ((g : Monomial → ℕ) → over (product_of σ (with_factor x m)) g ≡ over (product_of σ (x ∷ m)) g) → over (product_of σ (with_factor x (y ∷ m))) f ≡ over (product_of σ (x ∷ y ∷ m)) f
    by true h rest = ap (λ n. over (product_of σ n) f) (before x y m (leb-true x y h))
    by false h rest = ap (λ n. over (product_of σ n) f) (behind x y m h) ∙ deeper rest

-- what is put for a product of products
product_times : (σ : Substitution) (m n : Monomial) (f : Monomial → ℕ) → over (by_each (product_of σ m) (product_of σ n)) f ≡ over (product_of σ (times m n)) f
product_times σ [] n f = over_by_each (product_of σ []) (product_of σ n) f ∙ single (over (product_of σ n) f)
product_times σ (x ∷ m) n f =
    over_by_each (product_of σ (x ∷ m)) (product_of σ n) f
    ∙ over_by_each (multiplied (σ x)) (product_of σ m) (λ k. over (product_of σ n) (λ l. f (times k l)))
    ∙ (λ i. over (multiplied (σ x)) (λ j. over (product_of σ m) (λ k. over (product_of σ n) (λ l. f (times_times j k l i)))))
    ∙ (λ i. over (multiplied (σ x)) (λ j. over (product_of σ m) (λ k. over (product_of σ n) (λ l. f (times_turned j k l i)))))
    ∙ swap (multiplied (σ x)) (product_of σ m) (λ j k. over (product_of σ n) (λ l. f (times k (times j l))))
    ∙ (λ i. over (product_of σ m) (λ k. sym (over_by_each (multiplied (σ x)) (product_of σ n) (λ l. f (times k l))) i))
    ∙ (λ i. over (product_of σ m) (λ k. sym (product_factor σ x n (λ l. f (times k l))) i))
    ∙ sym (over_by_each (product_of σ m) (product_of σ (with_factor x n)) f)
    ∙ product_times σ m (with_factor x n) f

-- a sum over a natural that was put into is a sum over the natural
pub put_out : (t : TypeTree) (σ : Substitution) (f : Monomial → ℕ) → over (multiplied (sub t σ)) f ≡ over (multiplied t) (λ m. over (product_of σ m) f)
unfolding multiplied sub
put_out (ty_var x) σ f = sym (single (over (product_of σ (x ∷ [])) f) ∙ one_factor σ x f)
put_out (nat_lit n) σ f = ap (λ k. n * k + 0) (sym (single (f [])))
put_out (nat_sum a b) σ f =
    over_append (multiplied (sub a σ)) (multiplied (sub b σ)) f
    ∙ (λ i. put_out a σ f i + put_out b σ f i)
    ∙ sym (over_append (multiplied a) (multiplied b) (λ m. over (product_of σ m) f))
put_out (nat_product a b) σ f =
    over_by_each (multiplied (sub a σ)) (multiplied (sub b σ)) f
    ∙ put_out a σ (λ m. over (multiplied (sub b σ)) (λ n. f (times m n)))
    ∙ (λ i. over (multiplied a) (λ k. over (product_of σ k) (λ m. put_out b σ (λ n. f (times m n)) i)))
    ∙ (λ i. over (multiplied a) (λ k. swap (product_of σ k) (multiplied b) (λ m l. over (product_of σ l) (λ n. f (times m n))) i))
    ∙ (λ i. over (multiplied a) (λ k. over (multiplied b) (λ l. sym (over_by_each (product_of σ k) (product_of σ l) f) i)))
    ∙ (λ i. over (multiplied a) (λ k. over (multiplied b) (λ l. product_times σ k l f i)))
    ∙ sym (over_by_each (multiplied a) (multiplied b) (λ m. over (product_of σ m) f))
put_out _ σ f = refl

products_agree : (σ τ : Substitution) → ((x : ℕ) → SameNaturals (σ x) (τ x)) → (m : Monomial) (f : Monomial → ℕ) → ended (over (product_of σ m) f) ≡ ended (over (product_of τ m) f)
products_agree σ τ h [] f = refl
products_agree σ τ h (x ∷ m) f =
    ap ended (over_by_each (multiplied (σ x)) (product_of σ m) f)
    ∙ agree_over greatest (multiplied (σ x)) (multiplied (τ x)) (h x) (λ k. over (product_of σ m) (λ l. f (times k l)))
    ∙ over_agree greatest (multiplied (τ x)) (λ k. over (product_of σ m) (λ l. f (times k l))) (λ k. over (product_of τ m) (λ l. f (times k l))) (λ k. products_agree σ τ h m (λ l. f (times k l)))
    ∙ ap ended (sym (over_by_each (multiplied (τ x)) (product_of τ m) f))

-- what has one polynomial, put into what has one polynomial, gives one polynomial
pub polys_put : (a b : TypeTree) (σ τ : Substitution) → SameNaturals a b → ((x : ℕ) → SameNaturals (σ x) (τ x)) → SameNaturals (sub a σ) (sub b τ)
polys_put a b σ τ p h m =
    let at : Monomial → ℕ = λ n. counted (same_factors n m) 1 in
    ap ended (coefficient_over (multiplied (sub a σ)) m ∙ put_out a σ at)
    ∙ agree_over greatest (multiplied a) (multiplied b) p (λ n. over (product_of σ n) at)
    ∙ over_agree greatest (multiplied b) (λ n. over (product_of σ n) at) (λ n. over (product_of τ n) at) (λ n. products_agree σ τ h n at)
    ∙ ap ended (sym (coefficient_over (multiplied (sub b τ)) m ∙ put_out b τ at))
