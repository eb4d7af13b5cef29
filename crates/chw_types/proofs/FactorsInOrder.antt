-- Products of monomials whose factors are in order: how they are merged, and that they keep the order of monomials.
use Rattle.std.proofs.Common.{◌≡◌, ℕ, suc, ◌<◌, ◌≤◌, Bool, true, false, if◌then◌else◌, refl, sym, ap, ◌∙◌, subst, ◌⊎◌, inl, inr, [], ◌∷◌, ◌++◌, length, leb, arith}
use Rattle.std.proofs.lemmas.Bool.{leb-true, leb-false, le-leb}
use Rattle.std.proofs.lemmas.List.{append_assoc, append-nil}
use Rattle.std.specs.declared.cmp.Ordering.TheVariants.{Less, Equal, Greater}
use Rattle.std.specs.Ordering.{nat_cmp, ordering_then}
use Rattle.std.specs.Cmp.Lexicographic.{slice_cmp}
use Rattle.std.proofs.lemmas.Cmp.{nat_cmp_total, tied_itself, ranked, by_ranked}
use Rattle.std.proofs.lemmas.Bool.Decides.{nat_tests}
use Rattle.chw_types.specs.Polynomials.{Monomial, with_factor, times}
use Rattle.chw_types.specs.NormalSums.{order, AllFrom, IsAscending}

factor_before : (x y : ℕ) (m : Monomial) → x ≤ y → with_factor x (y ∷ m) ≡ x ∷ y ∷ m
factor_before x y m l = ap (λ b. if b then x ∷ y ∷ m else y ∷ with_factor x m) (le-leb x y l)

factor_behind : (x y : ℕ) (m : Monomial) → leb x y ≡ false → with_factor x (y ∷ m) ≡ y ∷ with_factor x m
factor_behind x y m e = ap (λ b. if b then x ∷ y ∷ m else y ∷ with_factor x m) e

pub factor_first : (x : ℕ) (m : Monomial) → AllFrom x m → with_factor x m ≡ x ∷ m
factor_first x [] h = refl
factor_first x (y ∷ m) h = factor_before x y m h.0

all_from_less : (x y : ℕ) (m : Monomial) → x ≤ y → AllFrom y m → AllFrom x m
all_from_less x y [] l h = tt
all_from_less x y (z ∷ m) l h = let g : y ≤ z = h.0 in (omega arith, all_from_less x y m l h.1)

all_from_factor : (x y : ℕ) (m : Monomial) → y ≤ x → AllFrom y m → AllFrom y (with_factor x m)
all_from_factor x y [] l h = (l, tt)
all_from_factor x y (z ∷ m) l h = by (leb x z) (all_from_factor x y m l h.1)
  where
    by : (b : Bool) → AllFrom y (with_factor x m) → AllFrom y (if b then x ∷ z ∷ m else z ∷ with_factor x m)
    by true rest = (l, h)
    by false rest = (h.0, rest)

ascending_factor : (x : ℕ) (m : Monomial) → IsAscending m → IsAscending (with_factor x m)
ascending_factor x [] h = (tt, tt)
ascending_factor x (z ∷ m) h = by (leb x z) refl (ascending_factor x m h.1)
  where
    by : (b : Bool) → leb x z ≡ b → IsAscending (with_factor x m) → IsAscending (if b then x ∷ z ∷ m else z ∷ with_factor x m)
    by true e rest = let l = leb-true x z e in ((l, all_from_less x z m l h.0), h)
    by false e rest = let l = leb-false x z e in (all_from_factor x z m (omega arith) h.0, rest)

-- a product of two has its factors in order where one of them has
pub ascending_times : (m n : Monomial) → IsAscending n → IsAscending (times m n)
ascending_times [] n h = h
ascending_times (x ∷ m) n h = ascending_times m (with_factor x n) (ascending_factor x n h)

-- a factor that is less than those of the other goes first
passes : (y : ℕ) (m n : Monomial) → AllFrom (suc y) m → times m (y ∷ n) ≡ y ∷ times m n
passes y [] n h = refl
passes y (x ∷ m) n h =
    ap (times m) (by (leb x y) refl)
    ∙ passes y m (with_factor x n) h.1
  where
    by : (b : Bool) → leb x y ≡ b → with_factor x (y ∷ n) ≡ y ∷ with_factor x n
    by true e = let l = leb-true x y e in let g : suc y ≤ x = h.0 in absurd (omega arith)
    by false e = factor_behind x y n e

leads : (x : ℕ) (m n : Monomial) → AllFrom x m → AllFrom x n → times m (x ∷ n) ≡ x ∷ times m n
leads x [] n h g = refl
leads x (z ∷ m) n h g = by (leb z x) refl (λ k f. leads x m k h.1 f)
  where
    by : (b : Bool) → leb z x ≡ b → ((k : Monomial) → AllFrom x k → times m (x ∷ k) ≡ x ∷ times m k) → times m (with_factor z (x ∷ n)) ≡ x ∷ times m (with_factor z n)
    by true e rest =
        let l = leb-true z x e in
        let is : z ≡ x = (let r : x ≤ z = h.0 in omega arith) in
        let self : AllFrom x (x ∷ n) = (omega arith, g) in
        ap (λ y. times m (with_factor y (x ∷ n))) is
        ∙ ap (times m) (factor_before x x n (omega arith))
        ∙ rest (x ∷ n) self
        ∙ ap (λ k. x ∷ times m k) (sym (factor_first x n g))
        ∙ ap (λ y. x ∷ times m (with_factor y n)) (sym is)
    by false e rest = ap (times m) (factor_behind z x n e) ∙ rest (with_factor z n) (all_from_factor z x n h.0 g)

-- the next factor of a product is the lesser of the first ones
pub times_left : (x y : ℕ) (m n : Monomial) → x ≤ y → IsAscending (x ∷ m) → IsAscending (y ∷ n) → times (x ∷ m) (y ∷ n) ≡ x ∷ times m (y ∷ n)
times_left x y m n l h g =
    ap (times m) (factor_before x y n l)
    ∙ leads x m (y ∷ n) h.0 (l, all_from_less x y n l g.0)

pub times_right : (x y : ℕ) (m n : Monomial) → y < x → IsAscending (x ∷ m) → times (x ∷ m) (y ∷ n) ≡ y ∷ times (x ∷ m) n
times_right x y m n l h = passes y (x ∷ m) n (l, all_from_less (suc y) x m l h.0)

pub times_none : (m : Monomial) → IsAscending m → times m [] ≡ m
times_none [] h = refl
times_none (x ∷ m) h = leads x m [] h.0 tt ∙ ap (λ k. x ∷ k) (times_none m h.1)

less_cmp : (x y : ℕ) → x < y → nat_cmp x y ≡ Less
less_cmp x y l = grind (arith, nat_tests)

same_cmp : (x y : ℕ) → x ≡ y → nat_cmp x y ≡ Equal
same_cmp x y e = ap (nat_cmp x) (sym e) ∙ tied_itself nat_cmp_total x

length_factor : (x : ℕ) (m : Monomial) → length (with_factor x m) ≡ suc (length m)
length_factor x [] = refl
length_factor x (y ∷ m) = by (leb x y) (length_factor x m)
  where
    by : (b : Bool) → length (with_factor x m) ≡ suc (length m) → length (if b then x ∷ y ∷ m else y ∷ with_factor x m) ≡ suc (suc (length m))
    by true rest = refl
    by false rest = ap suc rest

-- one more factor on both sides keeps the order of the dictionary
cmp_factor : (x : ℕ) (m n : Monomial) → length m ≡ length n → slice_cmp nat_cmp m n ≡ Less → slice_cmp nat_cmp (with_factor x m) (with_factor x n) ≡ Less
cmp_factor x [] [] e h = absurd (cc)
cmp_factor x [] (z ∷ n) e h = absurd (omega arith)
cmp_factor x (y ∷ m) [] e h = absurd (omega arith)
cmp_factor x (y ∷ m) (z ∷ n) e h = by (leb x y) refl (leb x z) refl (cmp_factor x m n (omega arith))
  where
    first : (y < z) → (b c : Bool) → leb x y ≡ b → leb x z ≡ c → slice_cmp nat_cmp (if b then x ∷ y ∷ m else y ∷ with_factor x m) (if c then x ∷ z ∷ n else z ∷ with_factor x n) ≡ Less
    first l true true f g = (λ i. ordering_then (same_cmp x x refl i) (ordering_then (less_cmp y z l i) (slice_cmp nat_cmp m n)))
    first l true false f g = let p = leb-true x y f in let q = leb-false x z g in absurd (omega arith)
    first l false true f g = let p = leb-false x y f in λ i. ordering_then (less_cmp y x p i) (slice_cmp nat_cmp (with_factor x m) (z ∷ n))
    first l false false f g = λ i. ordering_then (less_cmp y z l i) (slice_cmp nat_cmp (with_factor x m) (with_factor x n))

    tied : nat_cmp y z ≡ Equal → y ≡ z → slice_cmp nat_cmp m n ≡ Less → slice_cmp nat_cmp (with_factor x m) (with_factor x n) ≡ Less → (b c : Bool) → leb x y ≡ b → leb x z ≡ c → slice_cmp nat_cmp (if b then x ∷ y ∷ m else y ∷ with_factor x m) (if c then x ∷ z ∷ n else z ∷ with_factor x n) ≡ Less
    tied o is less rest true true f g = (λ i. ordering_then (same_cmp x x refl i) (ordering_then (o i) (less i)))
    tied o is less rest true false f g = let p = leb-true x y f in let q = leb-false x z g in absurd (omega arith)
    tied o is less rest false true f g = let p = leb-false x y f in let q = leb-true x z g in absurd (omega arith)
    tied o is less rest false false f g = λ i. ordering_then (o i) (rest i)

    greater : nat_cmp y z ≡ Greater → {A : Type 0} → A
    greater o = let e : Greater ≡ Less = sym (ap (λ r. ordering_then r (slice_cmp nat_cmp m n)) o) ∙ h in absurd (cc)

    by : (b : Bool) → leb x y ≡ b → (c : Bool) → leb x z ≡ c → (slice_cmp nat_cmp m n ≡ Less → slice_cmp nat_cmp (with_factor x m) (with_factor x n) ≡ Less) → slice_cmp nat_cmp (if b then x ∷ y ∷ m else y ∷ with_factor x m) (if c then x ∷ z ∷ n else z ∷ with_factor x n) ≡ Less
    by b f c g rest =
        by_ranked (y < z) (y ≡ z) (z < y) (nat_cmp y z) (ranked y z (nat_cmp y z) refl)
        (λ o l. first l b c f g)
        (λ o is. tied o is (sym (ap (λ r. ordering_then r (slice_cmp nat_cmp m n)) o) ∙ h) (rest (sym (ap (λ r. ordering_then r (slice_cmp nat_cmp m n)) o) ∙ h)) b c f g)
        (λ o l. greater o)

-- and of monomials
order_factor : (x : ℕ) (m n : Monomial) → order m n ≡ Less → order (with_factor x m) (with_factor x n) ≡ Less
order_factor x m n h =
    by_ranked (length m < length n) (length m ≡ length n) (length n < length m) (nat_cmp (length m) (length n)) (ranked (length m) (length n) (nat_cmp (length m) (length n)) refl)
    (λ o l. (λ i. ordering_then (less_cmp (length (with_factor x m)) (length (with_factor x n)) (longer l) i) (slice_cmp nat_cmp (with_factor x m) (with_factor x n))))
    (λ o e. (λ i. ordering_then (same_cmp (length (with_factor x m)) (length (with_factor x n)) (length_factor x m ∙ ap suc e ∙ sym (length_factor x n)) i) (cmp_factor x m n e (sym (ap (λ r. ordering_then r (slice_cmp nat_cmp m n)) o) ∙ h) i)))
    (λ o l. greater o)
  where
    longer : length m < length n → length (with_factor x m) < length (with_factor x n)
    longer l = let a = length_factor x m in let b = length_factor x n in omega arith

    greater : nat_cmp (length m) (length n) ≡ Greater → order (with_factor x m) (with_factor x n) ≡ Less
    greater o = let e : Greater ≡ Less = sym (ap (λ r. ordering_then r (slice_cmp nat_cmp m n)) o) ∙ h in absurd (cc)

-- products with one monomial keep the order
pub order_times : (k m n : Monomial) → order m n ≡ Less → order (times k m) (times k n) ≡ Less
order_times [] m n h = h
order_times (x ∷ k) m n h = order_times k (with_factor x m) (with_factor x n) (order_factor x m n h)

-- what was made, before the product of what is left, when the first factor of the first has gone over
pub gone_left : (left right xs ys done done' total : Monomial) (x y : ℕ) → left ≡ x ∷ xs → right ≡ y ∷ ys → x ≤ y → IsAscending left → IsAscending right → done' ≡ done ++ x ∷ [] → done ++ times left right ≡ total → done' ++ times xs right ≡ total
gone_left left right xs ys done done' total x y e f l h g more inv =
    ap (λ d. d ++ times xs right) more
    ∙ append_assoc done (x ∷ []) (times xs right)
    ∙ ap (λ k. done ++ k) (sym (ap (λ m. times m right) e ∙ ap (times (x ∷ xs)) f ∙ times_left x y xs ys l (subst IsAscending e h) (subst IsAscending f g) ∙ ap (λ m. x ∷ times xs m) (sym f)))
    ∙ inv

-- and when that of the second has
pub gone_right : (left right xs ys done done' total : Monomial) (x y : ℕ) → left ≡ x ∷ xs → right ≡ y ∷ ys → y < x → IsAscending left → done' ≡ done ++ y ∷ [] → done ++ times left right ≡ total → done' ++ times left ys ≡ total
gone_right left right xs ys done done' total x y e f l h more inv =
    ap (λ d. d ++ times left ys) more
    ∙ append_assoc done (y ∷ []) (times left ys)
    ∙ ap (λ k. done ++ k) (sym (ap (λ m. times m right) e ∙ ap (times (x ∷ xs)) f ∙ times_right x y xs ys l (subst IsAscending e h) ∙ ap (λ m. y ∷ times m ys) (sym e)))
    ∙ inv

-- at the end one of them is left over
pub left_over : (left right done total : Monomial) → (left ≡ []) ⊎ (right ≡ []) → IsAscending left → done ++ times left right ≡ total → (done ++ left) ++ right ≡ total
left_over left right done total none h inv = elim none [ inl e ↦ first e | inr e ↦ second e ]
  where
    first : left ≡ [] → (done ++ left) ++ right ≡ total
    first e = append_assoc done left right ∙ ap (λ k. done ++ k) (ap (λ m. m ++ right) e ∙ sym (ap (λ m. times m right) e)) ∙ inv

    second : right ≡ [] → (done ++ left) ++ right ≡ total
    second e = append_assoc done left right ∙ ap (λ k. done ++ k) (ap (λ m. left ++ m) e ∙ append-nil left ∙ sym (ap (times left) e ∙ times_none left h)) ∙ inv
