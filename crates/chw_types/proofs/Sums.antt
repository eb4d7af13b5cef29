-- What is summed over a polynomial's summands goes by its coefficients alone.
use Rattle.std.proofs.Common.{◌≡◌, ℕ, suc, zero, ◌+◌, ◌*◌, ◌≤◌, Bool, true, false, ◌&&◌, refl, sym, ap, ◌∙◌, subst, [], ◌∷◌, ◌++◌, length, min, eqb, leb, arith, add_assoc, zero-add}
use Rattle.std.proofs.lemmas.Bool.{and_parts, eqb-true, eq-eqb, leb-true, leb-false}
use Rattle.std.proofs.Math.Nat.{le-mul_of_pos_right}
use Rattle.chw_types.specs.Polynomials.{Monomial, times, same_factors, Summands, by_one, by_each, counted, coefficient}

pub same_factors_is : (m n : Monomial) → same_factors m n ≡ true → m ≡ n
same_factors_is [] [] h = refl
same_factors_is (x ∷ m) (y ∷ n) h = let e = and_parts (eqb x y) (same_factors m n) h in λ i. eqb-true x y e.0 i ∷ same_factors_is m n e.1 i
same_factors_is _ _ h = absurd (cc)

pub same_factors_self : (m : Monomial) → same_factors m m ≡ true
same_factors_self [] = refl
same_factors_self (x ∷ m) = λ i. eq-eqb x x refl i && same_factors_self m i

pub cap_plus : (c a b : ℕ) → min (a + b) c ≡ min (min a c + min b c) c
cap_plus c a b = omega arith

pub cap_times : (c a x : ℕ) → min (a * x) c ≡ min (min a c * x) c
cap_times c a zero = omega arith
cap_times c a (suc x) = at_more (leb a c) refl
  where
    at_more : (b : Bool) → leb a c ≡ b → min (a * suc x) c ≡ min (min a c * suc x) c
    at_more true h = let l = leb-true a c h in let e : min a c ≡ a = omega arith in ap (λ n. min (n * suc x) c) (sym e)
    at_more false h = let l = leb-false a c h in let e : min a c ≡ c = omega arith in
        let big : a ≤ a * suc x = le-mul_of_pos_right a (omega arith) in
        let full : c ≤ c * suc x = le-mul_of_pos_right c (omega arith) in
        let left : min (a * suc x) c ≡ c = omega arith in
        let right : min (c * suc x) c ≡ c = omega arith in
        left ∙ sym right ∙ ap (λ n. min (n * suc x) c) (sym e)

cap_step : (c a a' x r r' : ℕ) → min a c ≡ min a' c → min r c ≡ min r' c → min (a * x + r) c ≡ min (a' * x + r') c
cap_step c a a' x r r' e f =
    cap_plus c (a * x) r
    ∙ (λ i. min ((cap_times c a x ∙ ap (λ n. min (n * x) c) e ∙ sym (cap_times c a' x)) i + f i) c)
    ∙ sym (cap_plus c (a' * x) r')

-- what stands beside the coefficients is summed
abbrev pub over : Summands → (Monomial → ℕ) → ℕ
over [] f = 0
over (s ∷ p) f = s.0 * f s.1 + over p f

abbrev left_out : Bool → ℕ × Monomial → Summands → Summands
left_out true s p = p
left_out false s p = s ∷ p

-- the summands of other monomials
abbrev without : Monomial → Summands → Summands
without m [] = []
without m (s ∷ p) = left_out (same_factors s.1 m) s (without m p)

split_at : (b : Bool) (a k : ℕ) (n m : Monomial) (p : Summands) (f : Monomial → ℕ) → (b ≡ true → n ≡ m) → a * f n + (k * f m + over p f) ≡ (counted b a + k) * f m + over (left_out b (a, n) p) f
split_at true a k n m p f h = ap (λ n. a * f n + (k * f m + over p f)) (h refl) ∙ regroup a k (f m) (over p f)
  where
    regroup : (a k x r : ℕ) → a * x + (k * x + r) ≡ (a + k) * x + r
    regroup a k x r = grind arith
split_at false a k n m p f h = regroup (a * f n) k (f m) (over p f)
  where
    regroup : (x k y r : ℕ) → x + (k * y + r) ≡ (0 + k) * y + (x + r)
    regroup x k y r = grind arith

split : (m : Monomial) (p : Summands) (f : Monomial → ℕ) → over p f ≡ coefficient p m * f m + over (without m p) f
split m [] f = omega arith
split m (s ∷ p) f =
    ap (λ r. s.0 * f s.1 + r) (split m p f)
    ∙ split_at (same_factors s.1 m) s.0 (coefficient p m) s.1 m (without m p) f (same_factors_is s.1 m)

none_left : (m : Monomial) (p : Summands) → coefficient (without m p) m ≡ 0
none_left m [] = refl
none_left m (s ∷ p) = by (none_left m p) (same_factors s.1 m) refl
  where
    by : coefficient (without m p) m ≡ 0 → (b : Bool) → same_factors s.1 m ≡ b → coefficient (left_out b s (without m p)) m ≡ 0
    by rest true h = rest
    by rest false h = λ i. counted (h i) s.0 + rest i

others_left : (m n : Monomial) (p : Summands) → same_factors m n ≡ false → coefficient (without m p) n ≡ coefficient p n
others_left m n [] d = refl
others_left m n (s ∷ p) d = by (others_left m n p d) (same_factors s.1 m) refl
  where
    by : coefficient (without m p) n ≡ coefficient p n → (b : Bool) → same_factors s.1 m ≡ b → coefficient (left_out b s (without m p)) n ≡ counted (same_factors s.1 n) s.0 + coefficient p n
    by rest true h = rest ∙ sym (zero-add (coefficient p n)) ∙ ap (λ b. counted b s.0 + coefficient p n) (sym (ap (λ k. same_factors k n) (same_factors_is s.1 m h) ∙ d))
    by rest false h = ap (λ k. counted (same_factors s.1 n) s.0 + k) rest

shorter : (m : Monomial) (p : Summands) → length (without m p) ≤ length p
shorter m [] = omega arith
shorter m (s ∷ p) = by (shorter m p) (same_factors s.1 m)
  where
    by : length (without m p) ≤ length p → (b : Bool) → length (left_out b s (without m p)) ≤ suc (length p)
    by l true = omega arith
    by l false = omega arith

first_left : (s : ℕ × Monomial) (p : Summands) → length (without s.1 (s ∷ p)) ≤ length p
first_left s p = let l = shorter s.1 p in subst (λ b. length (left_out b s (without s.1 p)) ≤ length p) (sym (same_factors_self s.1)) l

-- the same coefficients, but for what passes c
abbrev pub Agree : ℕ → Summands → Summands → Type 0
Agree c p q = (m : Monomial) → min (coefficient p m) c ≡ min (coefficient q m) c

agree_without : (c : ℕ) (m : Monomial) (p q : Summands) → Agree c p q → Agree c (without m p) (without m q)
agree_without c m p q h n = by (same_factors m n) refl
  where
    by : (b : Bool) → same_factors m n ≡ b → min (coefficient (without m p) n) c ≡ min (coefficient (without m q) n) c
    by true e = let is = same_factors_is m n e in
        ap (λ n. min (coefficient (without m p) n) c) (sym is) ∙ ap (λ k. min k c) (none_left m p ∙ sym (none_left m q)) ∙ ap (λ n. min (coefficient (without m q) n) c) is
    by false e = ap (λ k. min k c) (others_left m n p e) ∙ h n ∙ ap (λ k. min k c) (sym (others_left m n q e))

agree_step : (c : ℕ) (m : Monomial) (p q : Summands) (f : Monomial → ℕ) → Agree c p q → min (over (without m p) f) c ≡ min (over (without m q) f) c → min (over p f) c ≡ min (over q f) c
agree_step c m p q f h e =
    ap (λ n. min n c) (split m p f)
    ∙ cap_step c (coefficient p m) (coefficient q m) (f m) (over (without m p) f) (over (without m q) f) (h m) e
    ∙ ap (λ n. min n c) (sym (split m q f))

agree_within : (k c : ℕ) (p q : Summands) → length p + length q ≤ k → Agree c p q → (f : Monomial → ℕ) → min (over p f) c ≡ min (over q f) c
agree_within k c [] [] l h f = refl
agree_within zero c (s ∷ p) q l h f = absurd (omega arith)
agree_within zero c [] (s ∷ q) l h f = absurd (omega arith)
agree_within (suc k) c (s ∷ p) q l h f =
    let a = first_left s p in
    let b = shorter s.1 q in
    agree_step c s.1 (s ∷ p) q f h (agree_within k c (without s.1 (s ∷ p)) (without s.1 q) (omega arith) (agree_without c s.1 (s ∷ p) q h) f)
agree_within (suc k) c [] (s ∷ q) l h f =
    let b = first_left s q in
    agree_step c s.1 [] (s ∷ q) f h (agree_within k c [] (without s.1 (s ∷ q)) (omega arith) (agree_without c s.1 [] (s ∷ q) h) f)

-- sums over agreeing polynomials agree
pub agree_over : (c : ℕ) (p q : Summands) → Agree c p q → (f : Monomial → ℕ) → min (over p f) c ≡ min (over q f) c
agree_over c p q h f = agree_within (length p + length q) c p q (omega arith) h f

-- and so do sums of what agrees
pub over_agree : (c : ℕ) (p : Summands) (f g : Monomial → ℕ) → ((m : Monomial) → min (f m) c ≡ min (g m) c) → min (over p f) c ≡ min (over p g) c
over_agree c [] f g h = refl
over_agree c (s ∷ p) f g h =
    cap_plus c (s.0 * f s.1) (over p f)
    ∙ (λ i. min (times_agree i + over_agree c p f g h i) c)
    ∙ sym (cap_plus c (s.0 * g s.1) (over p g))
  where
    turned : (x : ℕ) → s.0 * x ≡ x * s.0
    turned x = grind arith

    times_agree : min (s.0 * f s.1) c ≡ min (s.0 * g s.1) c
    times_agree = ap (λ n. min n c) (turned (f s.1)) ∙ cap_times c (f s.1) s.0 ∙ ap (λ n. min (n * s.0) c) (h s.1) ∙ sym (cap_times c (g s.1) s.0) ∙ ap (λ n. min n c) (sym (turned (g s.1)))

-- a coefficient is a sum of that kind
pub coefficient_over : (p : Summands) (m : Monomial) → coefficient p m ≡ over p (λ n. counted (same_factors n m) 1)
coefficient_over [] m = refl
coefficient_over (s ∷ p) m = λ i. by (same_factors s.1 m) i + coefficient_over p m i
  where
    by : (b : Bool) → counted b s.0 ≡ s.0 * counted b 1
    by true = grind arith
    by false = grind arith

pub over_append : (p q : Summands) (f : Monomial → ℕ) → over (p ++ q) f ≡ over p f + over q f
over_append [] q f = sym (zero-add (over q f))
over_append (s ∷ p) q f = ap (λ r. s.0 * f s.1 + r) (over_append p q f) ∙ sym (add_assoc (s.0 * f s.1) (over p f) (over q f))

pub over_by_one : (s : ℕ × Monomial) (q : Summands) (f : Monomial → ℕ) → over (by_one s q) f ≡ s.0 * over q (λ n. f (times s.1 n))
over_by_one s [] f = omega arith
over_by_one s (t ∷ q) f = ap (λ r. s.0 * t.0 * f (times s.1 t.1) + r) (over_by_one s q f) ∙ taken_out s.0 t.0 (f (times s.1 t.1)) (over q (λ n. f (times s.1 n)))
  where
    taken_out : (a b x r : ℕ) → a * b * x + a * r ≡ a * (b * x + r)
    taken_out a b x r = grind arith

pub over_by_each : (p q : Summands) (f : Monomial → ℕ) → over (by_each p q) f ≡ over p (λ m. over q (λ n. f (times m n)))
over_by_each [] q f = refl
over_by_each (s ∷ p) q f = over_append (by_one s q) (by_each p q) f ∙ (λ i. over_by_one s q f i + over_by_each p q f i)

pub coefficient_append : (p q : Summands) (m : Monomial) → coefficient (p ++ q) m ≡ coefficient p m + coefficient q m
coefficient_append [] q m = sym (zero-add (coefficient q m))
coefficient_append (s ∷ p) q m = ap (λ r. counted (same_factors s.1 m) s.0 + r) (coefficient_append p q m) ∙ sym (add_assoc (counted (same_factors s.1 m) s.0) (coefficient p m) (coefficient q m))

-- sums and products of agreeing polynomials agree
pub agree_append : (c : ℕ) (p p' q q' : Summands) → Agree c p p' → Agree c q q' → Agree c (p ++ q) (p' ++ q')
agree_append c p p' q q' h g m =
    ap (λ n. min n c) (coefficient_append p q m)
    ∙ cap_plus c (coefficient p m) (coefficient q m)
    ∙ (λ i. min (h m i + g m i) c)
    ∙ sym (cap_plus c (coefficient p' m) (coefficient q' m))
    ∙ ap (λ n. min n c) (sym (coefficient_append p' q' m))

pub agree_by_each : (c : ℕ) (p p' q q' : Summands) → Agree c p p' → Agree c q q' → Agree c (by_each p q) (by_each p' q')
agree_by_each c p p' q q' h g m =
    let at : Monomial → ℕ = λ n. counted (same_factors n m) 1 in
    ap (λ n. min n c) (coefficient_over (by_each p q) m ∙ over_by_each p q at)
    ∙ agree_over c p p' h (λ k. over q (λ n. at (times k n)))
    ∙ over_agree c p' (λ k. over q (λ n. at (times k n))) (λ k. over q' (λ n. at (times k n))) (λ k. agree_over c q q' g (λ n. at (times k n)))
    ∙ ap (λ n. min n c) (sym (coefficient_over (by_each p' q') m ∙ over_by_each p' q' at))
