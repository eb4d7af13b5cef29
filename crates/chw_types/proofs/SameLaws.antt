-- Laws of types that are the same.
use Rattle.std.proofs.Common.{◌≡◌, ℕ, ◌+◌, ◌*◌, ◌≤◌, Bool, true, false, ◌&&◌, if◌then◌else◌, refl, sym, ap, ◌∙◌, [], ◌∷◌, leb, arith}
use Rattle.std.proofs.lemmas.Bool.{and_parts}
use Rattle.chw_types.specs.TypeTree.{TypeTree, ty_var, nat_lit, nat_sum, nat_product, domain, scalar, vector, data_of, fun, signal, for_all, TypeTrees, no_types, type_and}
use Rattle.chw_types.specs.Polynomials.{greatest, ended, Monomial, with_factor, times, Summands, by_each, multiplied, is_natural, SameNaturals}
use Rattle.chw_types.specs.SamePromises.{natural_value}
use Rattle.chw_types.specs.SameTypes.{SameTypes, same_naturals, same_sum, same_product, same_domain, same_scalar, same_vector, same_data, same_fun, same_signal, same_for_all, SameAll, same_none, same_and}
use Rattle.chw_types.proofs.Sums.{over, over_append, over_by_each, agree_over, cap_plus, cap_times}
use Rattle.chw_types.proofs.SameTypesFound.{naturals_of_same}

mutual
  unfolding is_natural

  pub same_self : (t : TypeTree) → SameTypes t t
  same_self (ty_var x) = same_naturals refl refl (λ m. refl)
  same_self (nat_lit n) = same_naturals refl refl (λ m. refl)
  same_self (nat_sum a b) = same_sum (same_self a) (same_self b)
  same_self (nat_product a b) = same_product (same_self a) (same_self b)
  same_self (domain d) = same_domain
  same_self (scalar s w) = same_scalar (same_self w)
  same_self (vector n t) = same_vector (same_self n) (same_self t)
  same_self (data_of d ts) = same_data (all_self ts)
  same_self (fun a b) = same_fun (same_self a) (same_self b)
  same_self (signal d t) = same_signal (same_self d) (same_self t)
  same_self (for_all k t) = same_for_all (same_self t)

  pub all_self : (ts : TypeTrees) → SameAll ts ts
  all_self no_types = same_none
  all_self (type_and t ts) = same_and (same_self t) (all_self ts)

mutual
  pub same_turned : {t u : TypeTree} → SameTypes t u → SameTypes u t
  same_turned (same_naturals n m h) = same_naturals m n (λ k. sym (h k))
  same_turned (same_sum h g) = same_sum (same_turned h) (same_turned g)
  same_turned (same_product h g) = same_product (same_turned h) (same_turned g)
  same_turned same_domain = same_domain
  same_turned (same_scalar h) = same_scalar (same_turned h)
  same_turned (same_vector h g) = same_vector (same_turned h) (same_turned g)
  same_turned (same_data h) = same_data (all_turned h)
  same_turned (same_fun h g) = same_fun (same_turned h) (same_turned g)
  same_turned (same_signal h g) = same_signal (same_turned h) (same_turned g)
  same_turned (same_for_all h) = same_for_all (same_turned h)

  pub all_turned : {ts us : TypeTrees} → SameAll ts us → SameAll us ts
  all_turned same_none = same_none
  all_turned (same_and h hs) = same_and (same_turned h) (all_turned hs)

-- what is the same as a natural is one
natural_of_same : {t u : TypeTree} → SameTypes t u → is_natural t ≡ is_natural u
unfolding is_natural
natural_of_same (same_naturals n m h) = n ∙ sym m
natural_of_same (same_sum h g) = λ i. natural_of_same h i && natural_of_same g i
natural_of_same (same_product h g) = λ i. natural_of_same h i && natural_of_same g i
natural_of_same same_domain = refl
natural_of_same (same_scalar h) = refl
natural_of_same (same_vector h g) = refl
natural_of_same (same_data h) = refl
natural_of_same (same_fun h g) = refl
natural_of_same (same_signal h g) = refl
natural_of_same (same_for_all h) = refl

through_naturals : {t u v : TypeTree} → SameTypes t u → SameTypes u v → is_natural u ≡ true → SameTypes t v
through_naturals h g n =
    let left = natural_of_same h ∙ n in
    let right = sym (natural_of_same g) ∙ n in
    same_naturals left right (λ m. naturals_of_same h left n m ∙ naturals_of_same g n right m)

mutual
  pub same_through : {t u v : TypeTree} → SameTypes t u → SameTypes u v → SameTypes t v
  same_through (same_naturals n m h) g = through_naturals (same_naturals n m h) g m
  same_through (same_sum h k) (same_naturals n m g) = through_naturals (same_sum h k) (same_naturals n m g) n
  same_through (same_sum h k) (same_sum g l) = same_sum (same_through h g) (same_through k l)
  same_through (same_product h k) (same_naturals n m g) = through_naturals (same_product h k) (same_naturals n m g) n
  same_through (same_product h k) (same_product g l) = same_product (same_through h g) (same_through k l)
  same_through same_domain g = g
  same_through (same_scalar h) (same_naturals n m g) = through_naturals (same_scalar h) (same_naturals n m g) n
  same_through (same_scalar h) (same_scalar g) = same_scalar (same_through h g)
  same_through (same_vector h k) (same_naturals n m g) = through_naturals (same_vector h k) (same_naturals n m g) n
  same_through (same_vector h k) (same_vector g l) = same_vector (same_through h g) (same_through k l)
  same_through (same_data h) (same_naturals n m g) = through_naturals (same_data h) (same_naturals n m g) n
  same_through (same_data h) (same_data g) = same_data (all_through h g)
  same_through (same_fun h k) (same_naturals n m g) = through_naturals (same_fun h k) (same_naturals n m g) n
  same_through (same_fun h k) (same_fun g l) = same_fun (same_through h g) (same_through k l)
  same_through (same_signal h k) (same_naturals n m g) = through_naturals (same_signal h k) (same_naturals n m g) n
  same_through (same_signal h k) (same_signal g l) = same_signal (same_through h g) (same_through k l)
  same_through (same_for_all h) (same_naturals n m g) = through_naturals (same_for_all h) (same_naturals n m g) n
  same_through (same_for_all h) (same_for_all g) = same_for_all (same_through h g)

  pub all_through : {ts us vs : TypeTrees} → SameAll ts us → SameAll us vs → SameAll ts vs
  all_through same_none same_none = same_none
  all_through (same_and h hs) (same_and g gs) = same_and (same_through h g) (all_through hs gs)

-- the value of a product of variables
pub monomial_value : (ℕ → ℕ) → Monomial → ℕ
monomial_value ρ [] = 1
monomial_value ρ (x ∷ m) = ρ x * monomial_value ρ m

with_factor_value : (ρ : ℕ → ℕ) (x : ℕ) (m : Monomial) → monomial_value ρ (with_factor x m) ≡ ρ x * monomial_value ρ m
unfolding monomial_value
with_factor_value ρ x [] = refl
with_factor_value ρ x (y ∷ m) = by (leb x y) (with_factor_value ρ x m)
  where
    turned : (a b r : ℕ) → a * (b * r) ≡ b * (a * r)
    turned a b r = grind arith

    by : (b : Bool) → monomial_value ρ (with_factor x m) ≡ ρ x * monomial_value ρ m → monomial_value ρ (if b then x ∷ y ∷ m else y ∷ with_factor x m) ≡ ρ x * (ρ y * monomial_value ρ m)
    by true h = refl
    by false h = ap (λ r. ρ y * r) h ∙ turned (ρ y) (ρ x) (monomial_value ρ m)

times_value : (ρ : ℕ → ℕ) (m n : Monomial) → monomial_value ρ (times m n) ≡ monomial_value ρ m * monomial_value ρ n
unfolding monomial_value
times_value ρ [] n = omega arith
times_value ρ (x ∷ m) n = times_value ρ m (with_factor x n) ∙ ap (λ r. monomial_value ρ m * r) (with_factor_value ρ x n) ∙ turned (monomial_value ρ m) (ρ x) (monomial_value ρ n)
  where
    turned : (a b r : ℕ) → a * (b * r) ≡ b * a * r
    turned a b r = grind arith

over_scaled : (p : Summands) (f : Monomial → ℕ) (k : ℕ) → over p (λ m. f m * k) ≡ over p f * k
over_scaled [] f k = omega arith
over_scaled (s ∷ p) f k = ap (λ r. s.0 * (f s.1 * k) + r) (over_scaled p f k) ∙ turned s.0 (f s.1) k (over p f)
  where
    turned : (a b k r : ℕ) → a * (b * k) + r * k ≡ (a * b + r) * k
    turned a b k r = grind arith

over_same : (p : Summands) (f g : Monomial → ℕ) → ((m : Monomial) → f m ≡ g m) → over p f ≡ over p g
over_same p f g h = ap (over p) (λ i m. h m i)

over_products : (ρ : ℕ → ℕ) (p q : Summands) → over (by_each p q) (monomial_value ρ) ≡ over p (monomial_value ρ) * over q (monomial_value ρ)
over_products ρ p q =
    over_by_each p q (monomial_value ρ)
    ∙ over_same p _ (λ m. monomial_value ρ m * over q (monomial_value ρ)) (λ m. inner m)
    ∙ over_scaled p (monomial_value ρ) (over q (monomial_value ρ))
  where
    turned : (a b : ℕ) → a * b ≡ b * a
    turned a b = grind arith

    inner : (m : Monomial) → over q (λ n. monomial_value ρ (times m n)) ≡ monomial_value ρ m * over q (monomial_value ρ)
    inner m =
        over_same q _ (λ n. monomial_value ρ n * monomial_value ρ m) (λ n. times_value ρ m n ∙ turned (monomial_value ρ m) (monomial_value ρ n))
        ∙ over_scaled q (monomial_value ρ) (monomial_value ρ m)
        ∙ turned (over q (monomial_value ρ)) (monomial_value ρ m)

once : (r : ℕ) → r ≤ greatest → r ≡ ended (1 * (r * 1) + 0)
once r h = omega arith

once_lit : (n : ℕ) → ended n ≡ ended (n * 1 + 0)
once_lit n = omega arith

sum_once : (a b : ℕ) → ended (ended a + ended b) ≡ ended (a + b)
sum_once a b = sym (cap_plus greatest a b)

product_once : (a b : ℕ) → ended (ended a * ended b) ≡ ended (a * b)
product_once a b =
    sym (cap_times greatest a (ended b))
    ∙ ap ended (turned a (ended b))
    ∙ sym (cap_times greatest b a)
    ∙ ap ended (turned b a)
  where
    turned : (a b : ℕ) → a * b ≡ b * a
    turned a b = grind arith

-- ending at each step is ending once
pub value_over : (ρ : ℕ → ℕ) (t : TypeTree) → ((x : ℕ) → ρ x ≤ greatest) → is_natural t ≡ true → natural_value ρ t ≡ ended (over (multiplied t) (monomial_value ρ))
unfolding natural_value is_natural multiplied monomial_value
value_over ρ (ty_var x) h n = once (ρ x) (h x)
value_over ρ (nat_lit k) h n = once_lit k
value_over ρ (nat_sum a b) h n =
    let w = and_parts (is_natural a) (is_natural b) n in
    (λ i. ended (value_over ρ a h w.0 i + value_over ρ b h w.1 i))
    ∙ sum_once (over (multiplied a) (monomial_value ρ)) (over (multiplied b) (monomial_value ρ))
    ∙ ap ended (sym (over_append (multiplied a) (multiplied b) (monomial_value ρ)))
value_over ρ (nat_product a b) h n =
    let w = and_parts (is_natural a) (is_natural b) n in
    (λ i. ended (value_over ρ a h w.0 i * value_over ρ b h w.1 i))
    ∙ product_once (over (multiplied a) (monomial_value ρ)) (over (multiplied b) (monomial_value ρ))
    ∙ ap ended (sym (over_products ρ (multiplied a) (multiplied b)))
value_over ρ _ h n = absurd (cc)

pub one_value : (a b : TypeTree) (ρ : ℕ → ℕ) → ((x : ℕ) → ρ x ≤ greatest) → is_natural a ≡ true → is_natural b ≡ true → SameNaturals a b → natural_value ρ a ≡ natural_value ρ b
one_value a b ρ h n m same =
    value_over ρ a h n ∙ agree_over greatest (multiplied a) (multiplied b) same (monomial_value ρ) ∙ sym (value_over ρ b h m)
