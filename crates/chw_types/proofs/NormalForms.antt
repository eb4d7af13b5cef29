-- Sums in normal form: that they are determined by their polynomial, and what keeps the form.
use Rattle.std.proofs.Common.{◌≡◌, ℕ, ◌+◌, ◌*◌, ◌<◌, ◌≤◌, Bool, true, false, refl, sym, ap, ◌∙◌, subst, List, [], ◌∷◌, ◌++◌, length, arith, IsTrue, ◌↔◌}
use Rattle.std.proofs.lemmas.List.{append_assoc}
use Rattle.std.specs.declared.cmp.Ordering.{Ordering}
use Rattle.std.specs.declared.cmp.Ordering.TheVariants.{Less, Equal, Greater}
use Rattle.std.specs.Ordering.{nat_cmp, ordering_then, ordering_reverse}
use Rattle.std.specs.Cmp.{IsTotalOrder}
use Rattle.std.specs.Cmp.Lexicographic.{slice_cmp}
use Rattle.std.proofs.lemmas.Cmp.{nat_cmp_total, nat_list_cmp_total, on_total, then_total, tied_itself}
use Rattle.std.proofs.lemmas.Map.Lookups.{exact_bytes}
use Rattle.chw_types.specs.Polynomials.{greatest, ended, Monomial, times, same_factors, Summands, by_one, by_each, counted, coefficient}
use Rattle.chw_types.specs.Agreement.{Agrees}
use Rattle.chw_types.specs.NormalSums.{order, AllAfter, IsProper, IsNormal, scaled, TakesLeast, of_first, of_second, of_both}
use Rattle.std.proofs.Math.Nat.{le-mul_of_pos_right}
use Rattle.chw_types.proofs.FactorsInOrder.{ascending_times, order_times}
use Rattle.chw_types.proofs.Sums.{same_factors_is, same_factors_self, coefficient_append, agree_append}

order_total : IsTotalOrder order
order_total = then_total (on_total (λ (m : Monomial). length m) nat_cmp_total) nat_list_cmp_total

less_through : (k m n : Monomial) → order k m ≡ Less → order m n ≡ Less → order k n ≡ Less
less_through k m n h g = order_total.trans k m n h g

not_itself : (m : Monomial) → order m m ≡ Less → ⊥
not_itself m h = let e = tied_itself order_total m in absurd (cc)

pub greater_is_less : (m n : Monomial) → order m n ≡ Greater → order n m ≡ Less
greater_is_less m n h = by (order n m) (order_total.antisymm m n)
  where
    by : (o : Ordering) → order m n ≡ ordering_reverse o → o ≡ Less
    by Less e = refl
    by Equal e = absurd (cc)
    by Greater e = absurd (cc)

pub equal_is_same : (m n : Monomial) → order m n ≡ Equal → m ≡ n
equal_is_same m n h = exact_bytes m n (second (nat_cmp (length m) (length n)) (slice_cmp nat_cmp m n) h)
  where
    second : (o p : Ordering) → ordering_then o p ≡ Equal → p ≡ Equal
    second Less p e = absurd (cc)
    second Equal p e = e
    second Greater p e = absurd (cc)

not_same : (m n : Monomial) → order m n ≡ Less → same_factors n m ≡ false
not_same m n h = by (same_factors n m) refl
  where
    by : (b : Bool) → same_factors n m ≡ b → b ≡ false
    by true e = absurd (not_itself m (subst (λ k. order m k ≡ Less) (same_factors_is n m e) h))
    by false e = refl

after_through : (m n : Monomial) (p : Summands) → order m n ≡ Less → AllAfter n p → AllAfter m p
after_through m n [] l h = tt
after_through m n (s ∷ p) l h = (less_through m n s.1 l h.0, after_through m n p l h.1)

-- a monomial before all of a sum does not stand in it
absent : (m : Monomial) (p : Summands) → AllAfter m p → coefficient p m ≡ 0
absent m [] h = refl
absent m (s ∷ p) h = λ i. counted (not_same m s.1 h.0 i) s.0 + absent m p h.1 i

first_coefficient : (s : ℕ × Monomial) (p : Summands) → IsNormal (s ∷ p) → ended (coefficient (s ∷ p) s.1) ≡ s.0
first_coefficient s p h =
    let e : coefficient (s ∷ p) s.1 ≡ s.0 + 0 = (λ i. counted (same_factors_self s.1 i) s.0 + absent s.1 p h.1 i) in
    let small : s.0 ≤ greatest = h.0.1 in
    omega arith

tails_agree : (s t : ℕ × Monomial) (p q : Summands) → s ≡ t → AllAfter s.1 p → AllAfter t.1 q → Agrees (s ∷ p) (t ∷ q) → Agrees p q
tails_agree s t p q e h g a k = by (same_factors s.1 k) refl
  where
    by : (b : Bool) → same_factors s.1 k ≡ b → ended (coefficient p k) ≡ ended (coefficient q k)
    by true f =
        let is : s.1 ≡ k = same_factors_is s.1 k f in
        let none : coefficient p k ≡ 0 = absent k p (subst (λ m. AllAfter m p) is h) in
        let none' : coefficient q k ≡ 0 = absent k q (subst (λ m. AllAfter m q) (sym (ap (λ s. s.1) e) ∙ is) g) in
        ap ended (none ∙ sym none')
    by false f =
        let first : counted (same_factors s.1 k) s.0 ≡ 0 = ap (λ b. counted b s.0) f in
        let second : counted (same_factors t.1 k) t.0 ≡ 0 = ap (λ r. counted (same_factors r.1 k) r.0) (sym e) ∙ first in
        let here = a k in
        omega arith

-- normal sums of one polynomial are equal
pub normal_is_one : (p q : Summands) → IsNormal p → IsNormal q → Agrees p q → p ≡ q
normal_is_one [] [] h g a = refl
normal_is_one [] (t ∷ q) h g a = let e = first_coefficient t q g in let z = a t.1 in let l = g.0.0 in absurd (omega arith)
normal_is_one (s ∷ p) [] h g a = let e = first_coefficient s p h in let z = a s.1 in let l = h.0.0 in absurd (omega arith)
normal_is_one (s ∷ p) (t ∷ q) h g a = by (order s.1 t.1) refl (λ e. normal_is_one p q h.2 g.2 e)
  where
    by : (o : Ordering) → order s.1 t.1 ≡ o → (Agrees p q → p ≡ q) → s ∷ p ≡ t ∷ q
    by Less l rest =
        let e = first_coefficient s p h in
        let none : coefficient (t ∷ q) s.1 ≡ 0 = absent s.1 (t ∷ q) (l, after_through s.1 t.1 q l g.1) in
        let z = a s.1 in let l = h.0.0 in absurd (omega arith)
    by Greater l rest =
        let e = first_coefficient t q g in
        let less = greater_is_less s.1 t.1 l in
        let none : coefficient (s ∷ p) t.1 ≡ 0 = absent t.1 (s ∷ p) (less, after_through t.1 s.1 p less h.1) in
        let z = a t.1 in let l = g.0.0 in absurd (omega arith)
    by Equal l rest =
        let m : s.1 ≡ t.1 = equal_is_same s.1 t.1 l in
        let c : s.0 ≡ t.0 = sym (first_coefficient s p h) ∙ a s.1 ∙ ap (λ m. ended (coefficient (t ∷ q) m)) m ∙ first_coefficient t q g in
        let same : s ≡ t = (λ i. (c i, m i)) in
        λ i. same i ∷ rest (tails_agree s t p q same h.1 g.1 a) i

-- a part of a normal sum is normal
after_front : (m : Monomial) (p q : Summands) → AllAfter m (p ++ q) → AllAfter m p
after_front m [] q h = tt
after_front m (s ∷ p) q h = (h.0, after_front m p q h.1)

pub normal_front : (p q : Summands) → IsNormal (p ++ q) → IsNormal p
normal_front [] q h = tt
normal_front (s ∷ p) q h = (h.0, after_front s.1 p q h.1, normal_front p q h.2)

pub normal_back : (p q : Summands) → IsNormal (p ++ q) → IsNormal q
normal_back [] q h = h
normal_back (s ∷ p) q h = normal_back p q h.2

after_put : (m : Monomial) (d p q : Summands) (s t : ℕ × Monomial) → AllAfter m (d ++ s ∷ p) → AllAfter m (d ++ t ∷ q) → AllAfter m (d ++ s ∷ t ∷ q)
after_put m [] p q s t h g = (h.0, g)
after_put m (x ∷ d) p q s t h g = (h.0, after_put m d p q s t h.1 g.1)

-- a summand that comes before the rest of another sum
normal_put : (d p q : Summands) (s t : ℕ × Monomial) → order s.1 t.1 ≡ Less → IsNormal (d ++ s ∷ p) → IsNormal (d ++ t ∷ q) → IsNormal (d ++ s ∷ t ∷ q)
normal_put [] p q s t l h g = (h.0, (l, after_through s.1 t.1 q l g.1), g)
normal_put (x ∷ d) p q s t l h g = (h.0, after_put x.1 d p q s t h.1 g.1, normal_put d p q s t l h.2 g.2)

after_grown : (m n : Monomial) (d p : Summands) (c e : ℕ) → AllAfter m (d ++ (c, n) ∷ p) → AllAfter m (d ++ (e, n) ∷ p)
after_grown m n [] p c e h = h
after_grown m n (x ∷ d) p c e h = (h.0, after_grown m n d p c e h.1)

-- another coefficient
normal_grown : (n : Monomial) (d p : Summands) (c e : ℕ) → 0 < e → e ≤ greatest → IsNormal (d ++ (c, n) ∷ p) → IsNormal (d ++ (e, n) ∷ p)
normal_grown n [] p c e l small h = ((l, small, h.0.2), h.1, h.2)
normal_grown n (x ∷ d) p c e l small h = (h.0, after_grown x.1 n d p c e h.1, normal_grown n d p c e l small h.2)

put_on : {X : Type 0} (d p : List X) (s : X) → d ++ s ∷ p ≡ (d ++ s ∷ []) ++ p
put_on d p s = sym (append_assoc d (s ∷ []) p)

-- what the least summand is put behind stays normal with what is left of the first sum
pub taken_first : (d p q p' q' : Summands) (s : ℕ × Monomial) → TakesLeast p q s p' q' → IsNormal (d ++ p) → IsNormal (d ++ q) → IsNormal ((d ++ s ∷ []) ++ p')
taken_first d p q p' q' s (of_first l) h g = subst IsNormal (put_on d p' s) h
taken_first d p q p' q' s (of_second {s = r} {t = t} {p = rest} {q = more} l) h g =
    subst IsNormal (put_on d (r ∷ rest) t) (normal_put d more rest t r l g h)
taken_first d p q p' q' s (of_both {c = c} {d = e} {m = m} {p = rest} {q = more}) h g =
    let proper = (normal_back d ((c, m) ∷ rest) h).0 in
    let l : 0 < ended (c + e) = (let some : 0 < c = proper.0 in omega arith) in
    let small : ended (c + e) ≤ greatest = omega arith in
    subst IsNormal (put_on d rest (ended (c + e), m)) (normal_grown m d rest c (ended (c + e)) l small h)

-- and with what is left of the second
pub taken_second : (d p q p' q' : Summands) (s : ℕ × Monomial) → TakesLeast p q s p' q' → IsNormal (d ++ p) → IsNormal (d ++ q) → IsNormal ((d ++ s ∷ []) ++ q')
taken_second d p q p' q' s (of_first {s = r} {t = t} {p = rest} {q = more} l) h g =
    subst IsNormal (put_on d (t ∷ more) r) (normal_put d rest more r t l h g)
taken_second d p q p' q' s (of_second l) h g = subst IsNormal (put_on d q' s) g
taken_second d p q p' q' s (of_both {c = c} {d = e} {m = m} {p = rest} {q = more}) h g =
    let proper = (normal_back d ((c, m) ∷ rest) h).0 in
    let l : 0 < ended (c + e) = (let some : 0 < c = proper.0 in omega arith) in
    let small : ended (c + e) ≤ greatest = omega arith in
    subst IsNormal (put_on d more (ended (c + e), m)) (normal_grown m d more e (ended (c + e)) l small g)

-- the coefficients of three sums together
together : (d p q : Summands) (m : Monomial) → coefficient (d ++ (p ++ q)) m ≡ coefficient d m + (coefficient p m + coefficient q m)
together d p q m = coefficient_append d (p ++ q) m ∙ ap (λ k. coefficient d m + k) (coefficient_append p q m)

-- what is taken and what is left have the polynomial of both
pub taken_agrees : (d p q p' q' total : Summands) (s : ℕ × Monomial) → TakesLeast p q s p' q' → Agrees (d ++ (p ++ q)) total → Agrees ((d ++ s ∷ []) ++ (p' ++ q')) total
taken_agrees d p q p' q' total s takes a m =
    ap ended (together (d ++ s ∷ []) p' q' m ∙ ap (λ k. k + (coefficient p' m + coefficient q' m)) (coefficient_append d (s ∷ []) m))
    ∙ moved takes
    ∙ ap ended (sym (together d p q m))
    ∙ a m
  where
    moved : {p q p' q' : Summands} {s : ℕ × Monomial} → TakesLeast p q s p' q' → ended (coefficient d m + (counted (same_factors s.1 m) s.0 + 0) + (coefficient p' m + coefficient q' m)) ≡ ended (coefficient d m + (coefficient p m + coefficient q m))
    moved (of_first {s = s} {t = t} l) = omega arith
    moved (of_second {s = s} {t = t} l) = omega arith
    moved (of_both {c = c} {d = e} {m = n} {p = rest} {q = more}) = by (same_factors n m) (coefficient d m) (coefficient rest m) (coefficient more m)
      where
        by : (b : Bool) (x y z : ℕ) → ended (x + (counted b (ended (c + e)) + 0) + (y + z)) ≡ ended (x + ((counted b c + y) + (counted b e + z)))
        by true x y z = omega arith
        by false x y z = omega arith

after_scaled : (s : ℕ × Monomial) (m : Monomial) (q : Summands) → AllAfter m q → AllAfter (times s.1 m) (scaled s q)
after_scaled s m [] h = tt
after_scaled s m (t ∷ q) h = (order_times s.1 m t.1 h.0, after_scaled s m q h.1)

-- a normal sum times a summand is normal
pub scaled_normal : (s : ℕ × Monomial) (q : Summands) → IsProper s → IsNormal q → IsNormal (scaled s q)
scaled_normal s [] h g = tt
scaled_normal s (t ∷ q) h g =
    let first : 0 < s.0 = h.0 in
    let second : 0 < t.0 = g.0.0 in
    let more : s.0 ≤ s.0 * t.0 = le-mul_of_pos_right s.0 second in
    let l : 0 < ended (s.0 * t.0) = omega arith in
    let small : ended (s.0 * t.0) ≤ greatest = omega arith in
    ((l, small, ascending_times s.1 t.1 g.0.2), after_scaled s t.1 q g.1, scaled_normal s q h g.2)

-- and has the polynomial of the product
pub scaled_agrees : (s : ℕ × Monomial) (q : Summands) → Agrees (scaled s q) (by_one s q)
scaled_agrees s [] m = refl
scaled_agrees s (t ∷ q) m = by (same_factors (times s.1 t.1) m) (s.0 * t.0) (coefficient (scaled s q) m) (coefficient (by_one s q) m) (scaled_agrees s q m)
  where
    by : (b : Bool) (c x y : ℕ) → ended x ≡ ended y → ended (counted b (ended c) + x) ≡ ended (counted b c + y)
    by true c x y e = omega arith
    by false c x y e = omega arith

by_each_append : (p p' q : Summands) → by_each (p ++ p') q ≡ by_each p q ++ by_each p' q
by_each_append [] p' q = refl
by_each_append (s ∷ p) p' q = ap (λ r. by_one s q ++ r) (by_each_append p p' q) ∙ sym (append_assoc (by_one s q) (by_each p q) (by_each p' q))

-- the products of two parts of a sum, merged, are the products of the sum
pub parts_agree : (p p' q l r total : Summands) → Agrees l (by_each p q) → Agrees r (by_each p' q) → Agrees total (l ++ r) → Agrees total (by_each (p ++ p') q)
parts_agree p p' q l r total h g a m =
    a m
    ∙ agree_append greatest l (by_each p q) r (by_each p' q) h g m
    ∙ ap (λ s. ended (coefficient s m)) (sym (by_each_append p p' q))

-- one summand fewer is left
pub taken_shorter : (p q p' q' : Summands) (s : ℕ × Monomial) → TakesLeast p q s p' q' → length p' + length q' < length p + length q
taken_shorter p q p' q' s (of_first l) = omega arith
taken_shorter p q p' q' s (of_second l) = omega arith
taken_shorter p q p' q' s of_both = omega arith

-- whether two normal lists are equal decides whether what they agree with is one polynomial
pub lists_decide : (b : Bool) (l r p q : Summands) → IsNormal l → IsNormal r → Agrees l p → Agrees r q → (IsTrue b ↔ l ≡ r) → IsTrue b ↔ Agrees p q
lists_decide b l r p q h g a e is =
    (λ same m. sym (a m) ∙ ap (λ s. ended (coefficient s m)) (is.0 same) ∙ e m, λ agree. is.1 (normal_is_one l r h g (λ m. a m ∙ agree m ∙ sym (e m))))
