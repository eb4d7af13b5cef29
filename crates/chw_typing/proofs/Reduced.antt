-- A natural that is written without zeros has the same polynomial.
use Rattle.std.proofs.Common.{◌≡◌, ℕ, ◌+◌, ◌*◌, Bool, true, false, ◌&&◌, ◌||◌, if◌then◌else◌, refl, sym, ap, ◌∙◌, subst, [], ◌∷◌, ◌++◌, arith}
use Rattle.std.proofs.lemmas.Bool.{and_parts}
use Rattle.chw_types.specs.TypeTree.{TypeTree, ty_var, nat_lit, nat_sum, nat_product, domain, scalar, vector, data_of, fun, signal, for_all}
use Rattle.chw_types.specs.Polynomials.{ended, Monomial, times, same_factors, Summands, by_one, by_each, multiplied, counted, coefficient, is_natural}
use Rattle.chw_types.specs.SameTypes.{SameTypes, same_naturals, same_sum, same_product}
use Rattle.chw_types.proofs.SameLaws.{same_self, same_through}
use Rattle.type_laws.proofs.Factors.{times_times}
use Rattle.type_laws.proofs.PutSame.{natural_as}
use Rattle.chw_typing.specs.WithoutZeros.{is_numeral, plus, by, reduced}
use Rattle.chw_typing.proofs.Tight.{numeral_is}

pub coefficient_append : (p q : Summands) (m : Monomial) → coefficient (p ++ q) m ≡ coefficient p m + coefficient q m
coefficient_append [] q m = omega arith
coefficient_append (s ∷ p) q m = let e = coefficient_append p q m in omega arith

no_more : (b : Bool) (c : ℕ) → counted b 0 + c ≡ c
no_more true c = omega arith
no_more false c = omega arith

zero_left : (b : TypeTree) (m : Monomial) → ended (coefficient (multiplied (nat_sum (nat_lit 0) b)) m) ≡ ended (coefficient (multiplied b) m)
unfolding multiplied
zero_left b m = ap ended (no_more (same_factors [] m) (coefficient (multiplied b) m))

zero_right : (a : TypeTree) (m : Monomial) → ended (coefficient (multiplied (nat_sum a (nat_lit 0))) m) ≡ ended (coefficient (multiplied a) m)
unfolding multiplied
zero_right a m =
    let e = coefficient_append (multiplied a) ((0, []) ∷ []) m in
    let f = no_more (same_factors [] m) 0 in
    let is : coefficient (multiplied a ++ (0, []) ∷ []) m ≡ coefficient (multiplied a) m = omega arith in
    ap ended is

zero_times : (x : ℕ) → 0 * x ≡ 0
zero_times x = omega arith

times_zero : (x : ℕ) → x * 0 ≡ 0
times_zero x = omega arith

one_times : (x : ℕ) → 1 * x ≡ x
one_times x = omega arith

times_one : (x : ℕ) → x * 1 ≡ x
times_one x = omega arith

zero_by_each : (q : Summands) (m : Monomial) → coefficient (by_one (0, []) q ++ []) m ≡ 0
zero_by_each [] m = refl
zero_by_each (t ∷ q) m = (λ i. counted (same_factors t.1 m) (zero_times t.0 i) + zero_by_each q m i) ∙ no_more (same_factors t.1 m) 0

each_by_zero : (p : Summands) (m : Monomial) → coefficient (by_each p ((0, []) ∷ [])) m ≡ 0
each_by_zero [] m = refl
each_by_zero (s ∷ p) m = (λ i. counted (same_factors (times s.1 []) m) (times_zero s.0 i) + each_by_zero p m i) ∙ no_more (same_factors (times s.1 []) m) 0

product_zero_left : (b : TypeTree) (m : Monomial) → ended (coefficient (multiplied (nat_product (nat_lit 0) b)) m) ≡ ended (coefficient (multiplied (nat_lit 0)) m)
unfolding multiplied
product_zero_left b m = ap ended (zero_by_each (multiplied b) m ∙ sym (no_more (same_factors [] m) 0))

product_zero_right : (a : TypeTree) (m : Monomial) → ended (coefficient (multiplied (nat_product a (nat_lit 0))) m) ≡ ended (coefficient (multiplied (nat_lit 0)) m)
unfolding multiplied
product_zero_right a m = ap ended (each_by_zero (multiplied a) m ∙ sym (no_more (same_factors [] m) 0))

one_by_each : (q : Summands) (m : Monomial) → coefficient (by_one (1, []) q ++ []) m ≡ coefficient q m
one_by_each [] m = refl
one_by_each (t ∷ q) m = λ i. counted (same_factors t.1 m) (one_times t.0 i) + one_by_each q m i

product_one_left : (b : TypeTree) (m : Monomial) → ended (coefficient (multiplied (nat_product (nat_lit 1) b)) m) ≡ ended (coefficient (multiplied b) m)
unfolding multiplied
product_one_left b m = ap ended (one_by_each (multiplied b) m)

-- the factors of each product stand in order
abbrev AreOrdered : Summands → Type 0
AreOrdered [] = Unit {0}
AreOrdered (s ∷ p) = (times s.1 [] ≡ s.1) × AreOrdered p

ordered_append : (p q : Summands) → AreOrdered p → AreOrdered q → AreOrdered (p ++ q)
ordered_append [] q h g = g
ordered_append (s ∷ p) q h g = (h.0, ordered_append p q h.1 g)

ordered_by_one : (s : ℕ × Monomial) (q : Summands) → AreOrdered q → AreOrdered (by_one s q)
ordered_by_one s [] g = tt
ordered_by_one s (t ∷ q) g = (times_times s.1 t.1 [] ∙ ap (times s.1) g.0, ordered_by_one s q g.1)

ordered_by_each : (p q : Summands) → AreOrdered q → AreOrdered (by_each p q)
ordered_by_each [] q g = tt
ordered_by_each (s ∷ p) q g = ordered_append (by_one s q) (by_each p q) (ordered_by_one s q g) (ordered_by_each p q g)

ordered : (t : TypeTree) → AreOrdered (multiplied t)
unfolding multiplied
ordered (ty_var x) = (refl, tt)
ordered (nat_lit n) = (refl, tt)
ordered (nat_sum a b) = ordered_append (multiplied a) (multiplied b) (ordered a) (ordered b)
ordered (nat_product a b) = ordered_by_each (multiplied a) (multiplied b) (ordered b)
ordered _ = tt

each_by_one : (p : Summands) (m : Monomial) → AreOrdered p → coefficient (by_each p ((1, []) ∷ [])) m ≡ coefficient p m
each_by_one [] m h = refl
each_by_one (s ∷ p) m h = λ i. counted (same_factors (h.0 i) m) (times_one s.0 i) + each_by_one p m h.1 i

product_one_right : (a : TypeTree) (m : Monomial) → ended (coefficient (multiplied (nat_product a (nat_lit 1))) m) ≡ ended (coefficient (multiplied a) m)
unfolding multiplied
product_one_right a m = ap ended (each_by_one (multiplied a) m (ordered a))

same_plus : (a b : TypeTree) → is_natural a ≡ true → is_natural b ≡ true → SameTypes (nat_sum a b) (plus a b)
unfolding is_natural
same_plus a b n m = at (is_numeral 0 a) (is_numeral 0 b) refl refl
  where
    at : (x y : Bool) → is_numeral 0 a ≡ x → is_numeral 0 b ≡ y → SameTypes (nat_sum a b) (if x then b else if y then a else nat_sum a b)
    at true y e f = subst (λ z. SameTypes (nat_sum z b) b) (sym (numeral_is 0 a e)) (same_naturals m m (zero_left b))
    at false true e f = subst (λ z. SameTypes (nat_sum a z) a) (sym (numeral_is 0 b f)) (same_naturals (λ i. n i && true) n (zero_right a))
    at false false e f = same_self (nat_sum a b)

same_by : (a b : TypeTree) → is_natural a ≡ true → is_natural b ≡ true → SameTypes (nat_product a b) (by a b)
unfolding is_natural
same_by a b n m = at (is_numeral 0 a) (is_numeral 1 b) (is_numeral 0 b) (is_numeral 1 a) refl refl refl refl
  where
    at : (x u y v : Bool) → is_numeral 0 a ≡ x → is_numeral 1 b ≡ u → is_numeral 0 b ≡ y → is_numeral 1 a ≡ v → SameTypes (nat_product a b) (if x || u then a else if y || v then b else nat_product a b)
    at true u y v e i f j = subst (λ z. SameTypes (nat_product z b) z) (sym (numeral_is 0 a e)) (same_naturals m refl (product_zero_left b))
    at false true y v e i f j = subst (λ z. SameTypes (nat_product a z) a) (sym (numeral_is 1 b i)) (same_naturals (λ k. n k && true) n (product_one_right a))
    at false false true v e i f j = subst (λ z. SameTypes (nat_product a z) z) (sym (numeral_is 0 b f)) (same_naturals (λ k. n k && true) refl (product_zero_right a))
    at false false false true e i f j = subst (λ z. SameTypes (nat_product z b) b) (sym (numeral_is 1 a j)) (same_naturals m m (product_one_left b))
    at false false false false e i f j = same_self (nat_product a b)

pub reduced_natural : (t : TypeTree) → SameTypes t (reduced t) → is_natural t ≡ true → is_natural (reduced t) ≡ true
reduced_natural t h n = sym (natural_as h) ∙ n

pub same_reduced : (t : TypeTree) → is_natural t ≡ true → SameTypes t (reduced t)
unfolding is_natural reduced
same_reduced (ty_var x) n = same_self (ty_var x)
same_reduced (nat_lit k) n = same_self (nat_lit k)
same_reduced (nat_sum a b) n =
    let w = and_parts (is_natural a) (is_natural b) n in
    let left = same_reduced a w.0 in
    let right = same_reduced b w.1 in
    same_through (same_sum left right) (same_plus (reduced a) (reduced b) (reduced_natural a left w.0) (reduced_natural b right w.1))
same_reduced (nat_product a b) n =
    let w = and_parts (is_natural a) (is_natural b) n in
    let left = same_reduced a w.0 in
    let right = same_reduced b w.1 in
    same_through (same_product left right) (same_by (reduced a) (reduced b) (reduced_natural a left w.0) (reduced_natural b right w.1))
same_reduced (domain d) n = absurd (cc)
same_reduced (scalar s w) n = absurd (cc)
same_reduced (vector m t) n = absurd (cc)
same_reduced (data_of d ts) n = absurd (cc)
same_reduced (fun a b) n = absurd (cc)
same_reduced (signal d t) n = absurd (cc)
same_reduced (for_all k t) n = absurd (cc)
