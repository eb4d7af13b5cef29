-- The least of two sums, as the code takes it from the fronts of their lists.
use Rattle.std.proofs.Common.{◌≡◌, ℕ, ◌+◌, ◌≤◌, true, sym, ap, ◌∙◌, subst, List, [], ◌∷◌, ◌++◌, length, get_or, take, drop, ltb, arith, Option, Some, None, IfSome}
use Rattle.std.proofs.lemmas.List.{map-append, append-nil, take-append-drop}
use Rattle.std.specs.Option.{option_to_list}
use Rattle.std.specs.declared.cmp.Ordering.TheVariants.{Less, Equal, Greater}
use Rattle.chw_types.specs.declared.polynomial.Summand.{Summand}
use Rattle.chw_types.specs.Polynomials.{ended, Monomial, Summands, coefficient, by_one, by_each}
use Rattle.chw_types.specs.Agreement.{Agrees}
use Rattle.chw_types.specs.NormalSums.{order, IsNormal, scaled, TakesLeast, of_first, of_second, of_both}
use Rattle.chw_types.specs.SummandView.{summand_of, sum_of}
use Rattle.chw_types.proofs.NormalForms.{greater_is_less, equal_is_same, scaled_normal, scaled_agrees}

-- the first item that was looked at
front_is : (p p' : List Summand) (x s : Summand) → p ≡ s ∷ p' → x ≡ get_or p 0 x → x ≡ s
front_is p p' x s e f = f ∙ ap (λ q. get_or q 0 x) e

pub least_is_first : (r : Option Summand) (p p' q : List Summand) (x y : Summand) (m n : Monomial) → p ≡ option_to_list r ++ p' → x ≡ get_or p 0 x → true ≡ ltb 0 (length q) → y ≡ get_or q 0 y → m ≡ x.factors.items → n ≡ y.factors.items → Less ≡ order m n → IfSome r (λ s. TakesLeast (sum_of p) (sum_of q) (summand_of s) (sum_of p') (sum_of q))
least_is_first None p p' q x y m n e f some g k l o = tt
least_is_first (Some s) p p' [] x y m n e f some g k l o = absurd (cc)
least_is_first (Some s) p p' (t ∷ q) x y m n e f some g k l o =
    let is : x ≡ s = front_is p p' x s e f in
    let less : order s.factors.items t.factors.items ≡ Less = sym (o ∙ (λ i. order ((k ∙ ap (λ x. x.factors.items) is) i) ((l ∙ ap (λ x. x.factors.items) g) i))) in
    subst (λ p. TakesLeast (sum_of p) (sum_of (t ∷ q)) (summand_of s) (sum_of p') (sum_of (t ∷ q))) (sym e) (of_first less)

pub least_is_second : (r : Option Summand) (p q q' : List Summand) (x y : Summand) (m n : Monomial) → q ≡ option_to_list r ++ q' → y ≡ get_or q 0 y → true ≡ ltb 0 (length p) → x ≡ get_or p 0 x → m ≡ x.factors.items → n ≡ y.factors.items → Greater ≡ order m n → IfSome r (λ s. TakesLeast (sum_of p) (sum_of q) (summand_of s) (sum_of p) (sum_of q'))
least_is_second None p q q' x y m n e f some g k l o = tt
least_is_second (Some t) [] q q' x y m n e f some g k l o = absurd (cc)
least_is_second (Some t) (s ∷ p) q q' x y m n e f some g k l o =
    let is : y ≡ t = front_is q q' y t e f in
    let less : order t.factors.items s.factors.items ≡ Less =
    greater_is_less s.factors.items t.factors.items (sym (o ∙ (λ i. order ((k ∙ ap (λ x. x.factors.items) g) i) ((l ∙ ap (λ x. x.factors.items) is) i)))) in
    subst (λ q. TakesLeast (sum_of (s ∷ p)) (sum_of q) (summand_of t) (sum_of (s ∷ p)) (sum_of q')) (sym e) (of_second less)

pub least_is_both : (p p' q q' : List Summand) (x y s t : Summand) (c : ℕ) (m n : Monomial) → p ≡ s ∷ p' → x ≡ get_or p 0 x → q ≡ t ∷ q' → y ≡ get_or q 0 y → m ≡ x.factors.items → n ≡ y.factors.items → Equal ≡ order m n → c ≡ ended (s.coefficient + t.coefficient) → TakesLeast (sum_of p) (sum_of q) (c, s.factors.items) (sum_of p') (sum_of q')
least_is_both p p' q q' x y s t c m n e f g h k l o sum =
    let first : m ≡ s.factors.items = k ∙ ap (λ x. x.factors.items) (front_is p p' x s e f) in
    let second : n ≡ t.factors.items = l ∙ ap (λ x. x.factors.items) (front_is q q' y t g h) in
    let same : s.factors.items ≡ t.factors.items = sym first ∙ equal_is_same m n (sym o) ∙ second in
    let taken : TakesLeast (summand_of s ∷ sum_of p') (summand_of t ∷ sum_of q') (ended (s.coefficient + t.coefficient), s.factors.items) (sum_of p') (sum_of q') =
    subst (λ k. TakesLeast (summand_of s ∷ sum_of p') ((t.coefficient, k) ∷ sum_of q') (ended (s.coefficient + t.coefficient), s.factors.items) (sum_of p') (sum_of q')) same of_both in
    subst (λ p. TakesLeast (sum_of p) (sum_of q) (c, s.factors.items) (sum_of p') (sum_of q')) (sym e)
    (subst (λ q. TakesLeast (sum_of (s ∷ p')) (sum_of q) (c, s.factors.items) (sum_of p') (sum_of q')) (sym g)
    (subst (λ v. TakesLeast (sum_of (s ∷ p')) (sum_of (t ∷ q')) (v, s.factors.items) (sum_of p') (sum_of q')) (sym sum) taken))

-- one more summand at the end
pub summands_pushed : (d d' : List Summand) (s : Summand) → d' ≡ d ++ s ∷ [] → sum_of d' ≡ sum_of d ++ summand_of s ∷ []
summands_pushed d d' s e = ap sum_of e ∙ map-append summand_of d (s ∷ [])

-- the only summand
pub only_summand : (p : List Summand) (s : Summand) → length p ≤ 1 → true ≡ ltb 0 (length p) → s ≡ get_or p 0 s → sum_of p ≡ summand_of s ∷ []
only_summand [] s few some e = absurd (cc)
only_summand (x ∷ []) s few some e = ap (λ x. summand_of x ∷ []) (sym e)
only_summand (x ∷ y ∷ p) s few some e = absurd (omega arith)

pub only_normal : (p : Summands) (s : ℕ × Monomial) (q r : Summands) → p ≡ s ∷ [] → IsNormal p → IsNormal q → r ≡ scaled s q → IsNormal r
only_normal p s q r e h g f = subst IsNormal (sym f) (scaled_normal s q (subst IsNormal e h).0 g)

pub only_agrees : (p : Summands) (s : ℕ × Monomial) (q r : Summands) → p ≡ s ∷ [] → r ≡ scaled s q → Agrees r (by_each p q)
only_agrees p s q r e f m =
    ap (λ r. ended (coefficient r m)) f
    ∙ scaled_agrees s q m
    ∙ ap (λ r. ended (coefficient r m)) (sym (append-nil (by_one s q)) ∙ ap (λ p. by_each p q) (sym e))

-- the summands of the two parts of a list
pub parts_of : (p front back : List Summand) (i : ℕ) → front ≡ take i p → back ≡ drop i p → sum_of front ++ sum_of back ≡ sum_of p
parts_of p front back i e f = sym (map-append summand_of front back) ∙ ap sum_of ((λ j. e j ++ f j) ∙ take-append-drop i p)
