-- The function that the code computes is the relation.
use Rattle.std.proofs.Common.{◌≡◌, ℕ, suc, ◌+◌, ◌<◌, ◌≤◌, Bool, true, false, ◌&&◌, refl, sym, ap, ◌∙◌, subst, List, [], ◌∷◌, length, eqb, drop, get_or, arith, ◌⊎◌, inl, inr, IsTrue, ◌↔◌}
use Rattle.std.proofs.lemmas.Bool.{and_parts, and_from, eqb-true, eq-eqb}
use Rattle.chw_types.specs.declared.kind.Kind.{Kind}
use Rattle.chw_types.specs.declared.kind.Kind.TheVariants.{Nat, Dom, Val, Cir}
use Rattle.chw_types.specs.declared.kind.Scalar.{Scalar}
use Rattle.chw_types.specs.declared.kind.Scalar.TheVariants.{U, S, B}
use Rattle.chw_types.specs.TypeTree.{TypeTree, nat_sum, nat_product, domain, scalar, vector, data_of, fun, signal, for_all, TypeTrees, no_types, type_and}
use Rattle.chw_types.specs.Polynomials.{greatest, ended, Monomial, same_factors, Summands, counted, coefficient, multiplied, is_natural, SameNaturals}
use Rattle.chw_types.specs.Agreement.{Agrees}
use Rattle.chw_types.specs.SameFound.{agree_on, same_sums, same_sort, same_kind, same_by, same_from, same_parts, same_all, same_found}
use Rattle.chw_types.specs.SameTypes.{SameTypes, same_naturals, same_sum, same_product, same_domain, same_scalar, same_vector, same_data, same_fun, same_signal, same_for_all, SameAll, same_none, same_and}
use Rattle.std.proofs.lemmas.List.{drop_all}
use Rattle.std.proofs.lemmas.Bool.Decides.{same_from_decides}
use Rattle.chw_types.specs.TypeView.{trees_of}
use Rattle.chw_types.proofs.SumsFound.{next_dropped}
use Rattle.chw_types.proofs.Sums.{same_factors_is, agree_append, agree_by_each}

-- a monomial agrees, or doesn't stand there
at_or_none : (at p q : Summands) (m : Monomial) → agree_on at p q ≡ true → (ended (coefficient p m) ≡ ended (coefficient q m)) ⊎ (coefficient at m ≡ 0)
at_or_none [] p q m h = inr refl
at_or_none (s ∷ at) p q m h =
    let e = and_parts (eqb (ended (coefficient p s.1)) (ended (coefficient q s.1))) (agree_on at p q) h in
    here (at_or_none at p q m e.1) (eqb-true (ended (coefficient p s.1)) (ended (coefficient q s.1)) e.0) (same_factors s.1 m) refl
  where
    later : (b : Bool) → b ≡ false → (ended (coefficient p m) ≡ ended (coefficient q m)) ⊎ (coefficient at m ≡ 0) → (ended (coefficient p m) ≡ ended (coefficient q m)) ⊎ (counted b s.0 + coefficient at m ≡ 0)
    later b n (inl e) = inl e
    later b n (inr e) = inr (λ i. counted (n i) s.0 + e i)

    here : (ended (coefficient p m) ≡ ended (coefficient q m)) ⊎ (coefficient at m ≡ 0) → ended (coefficient p s.1) ≡ ended (coefficient q s.1) → (b : Bool) → same_factors s.1 m ≡ b → (ended (coefficient p m) ≡ ended (coefficient q m)) ⊎ (counted (same_factors s.1 m) s.0 + coefficient at m ≡ 0)
    here rest e true is = inl (subst (λ k. ended (coefficient p k) ≡ ended (coefficient q k)) (same_factors_is s.1 m is) e)
    here rest e false is = later (same_factors s.1 m) is rest

pub sums_agree : (p q : Summands) → same_sums p q ≡ true → Agrees p q
sums_agree p q h m =
    let e = and_parts (agree_on p p q) (agree_on q p q) h in
    elim (at_or_none p p q m e.0) [ inl a ↦ a | inr a ↦ elim (at_or_none q p q m e.1) [ inl b ↦ b | inr b ↦ ap ended (a ∙ sym b) ] ]

agree_everywhere : (at p q : Summands) → Agrees p q → agree_on at p q ≡ true
agree_everywhere [] p q h = refl
agree_everywhere (s ∷ at) p q h = and_from _ _ (eq-eqb (ended (coefficient p s.1)) (ended (coefficient q s.1)) (h s.1)) (agree_everywhere at p q h)

pub agreeing_sums : (p q : Summands) → Agrees p q → same_sums p q ≡ true
agreeing_sums p q h = and_from _ _ (agree_everywhere p p q h) (agree_everywhere q p q h)

same_sort_is : (s r : Scalar) → same_sort s r ≡ true → s ≡ r
same_sort_is U U h = refl
same_sort_is S S h = refl
same_sort_is B B h = refl
same_sort_is _ _ h = absurd (cc)

same_sort_self : (s : Scalar) → same_sort s s ≡ true
same_sort_self U = refl
same_sort_self S = refl
same_sort_self B = refl

same_kind_is : (s r : Kind) → same_kind s r ≡ true → s ≡ r
same_kind_is Nat Nat h = refl
same_kind_is Dom Dom h = refl
same_kind_is Val Val h = refl
same_kind_is Cir Cir h = refl
same_kind_is _ _ h = absurd (cc)

same_kind_self : (s : Kind) → same_kind s s ≡ true
same_kind_self Nat = refl
same_kind_self Dom = refl
same_kind_self Val = refl
same_kind_self Cir = refl

-- what a test of two types says, from what a test of their parts says
from_parts : (a b : TypeTree) (parts : Bool) → (parts ≡ true → SameTypes a b) → same_from a b parts ≡ true → SameTypes a b
unfolding same_from
from_parts a b parts h e = by (is_natural a && is_natural b) refl e
  where
    by : (n : Bool) → (is_natural a && is_natural b) ≡ n → same_by n (same_sums (multiplied a) (multiplied b)) parts ≡ true → SameTypes a b
    by true is e = let w = and_parts (is_natural a) (is_natural b) is in same_naturals w.0 w.1 (sums_agree (multiplied a) (multiplied b) e)
    by false is e = h e

mutual
  unfolding same_parts

  pub parts_are_same : (a b : TypeTree) → same_parts a b ≡ true → SameTypes a b
  parts_are_same (nat_sum a b) (nat_sum c d) h = let e = and_parts _ _ h in same_sum (from_parts a c (same_parts a c) (parts_are_same a c) e.0) (from_parts b d (same_parts b d) (parts_are_same b d) e.1)
  parts_are_same (nat_product a b) (nat_product c d) h = let e = and_parts _ _ h in same_product (from_parts a c (same_parts a c) (parts_are_same a c) e.0) (from_parts b d (same_parts b d) (parts_are_same b d) e.1)
  parts_are_same (domain d) (domain k) h = subst (λ k. SameTypes (domain d) (domain k)) (eqb-true d k h) same_domain
  parts_are_same (scalar s v) (scalar r w) h = let e = and_parts _ _ h in subst (λ r. SameTypes (scalar s v) (scalar r w)) (same_sort_is s r e.0) (same_scalar (from_parts v w (same_parts v w) (parts_are_same v w) e.1))
  parts_are_same (vector n t) (vector m u) h = let e = and_parts _ _ h in same_vector (from_parts n m (same_parts n m) (parts_are_same n m) e.0) (from_parts t u (same_parts t u) (parts_are_same t u) e.1)
  parts_are_same (data_of d ts) (data_of k us) h = let e = and_parts _ _ h in subst (λ k. SameTypes (data_of d ts) (data_of k us)) (eqb-true d k e.0) (same_data (all_are_same ts us e.1))
  parts_are_same (fun a b) (fun c d) h = let e = and_parts _ _ h in same_fun (from_parts a c (same_parts a c) (parts_are_same a c) e.0) (from_parts b d (same_parts b d) (parts_are_same b d) e.1)
  parts_are_same (signal a b) (signal c d) h = let e = and_parts _ _ h in same_signal (from_parts a c (same_parts a c) (parts_are_same a c) e.0) (from_parts b d (same_parts b d) (parts_are_same b d) e.1)
  parts_are_same (for_all k t) (for_all j u) h = let e = and_parts _ _ h in subst (λ j. SameTypes (for_all k t) (for_all j u)) (same_kind_is k j e.0) (same_for_all (from_parts t u (same_parts t u) (parts_are_same t u) e.1))
  parts_are_same _ _ h = absurd (cc)

  pub all_are_same : (ts us : TypeTrees) → same_all ts us ≡ true → SameAll ts us
  all_are_same no_types no_types h = same_none
  all_are_same (type_and t ts) (type_and u us) h = let e = and_parts _ _ h in same_and (from_parts t u (same_parts t u) (parts_are_same t u) e.0) (all_are_same ts us e.1)
  all_are_same _ _ h = absurd (cc)

pub found_is_same : (a b : TypeTree) → same_found a b ≡ true → SameTypes a b
found_is_same a b h = from_parts a b (same_parts a b) (parts_are_same a b) h

-- naturals have natural parts of one polynomial, or the parts agree: then the test says so
to_from : (a b : TypeTree) (parts : Bool) → (is_natural a ≡ true → is_natural b ≡ true → SameNaturals a b) → ((is_natural a && is_natural b) ≡ false → parts ≡ true) → same_from a b parts ≡ true
unfolding same_from
to_from a b parts n h = by (is_natural a && is_natural b) refl
  where
    by : (k : Bool) → (is_natural a && is_natural b) ≡ k → same_by k (same_sums (multiplied a) (multiplied b)) parts ≡ true
    by true is = let w = and_parts (is_natural a) (is_natural b) is in agreeing_sums (multiplied a) (multiplied b) (n w.0 w.1)
    by false is = h is

sum_naturals : (a b c d : TypeTree) → SameNaturals a c → SameNaturals b d → SameNaturals (nat_sum a b) (nat_sum c d)
unfolding multiplied
sum_naturals a b c d h g = agree_append greatest (multiplied a) (multiplied c) (multiplied b) (multiplied d) h g

product_naturals : (a b c d : TypeTree) → SameNaturals a c → SameNaturals b d → SameNaturals (nat_product a b) (nat_product c d)
unfolding multiplied
product_naturals a b c d h g = agree_by_each greatest (multiplied a) (multiplied c) (multiplied b) (multiplied d) h g

-- the same types that are naturals are one polynomial
mutual
  unfolding is_natural

  pub naturals_of_same : {a b : TypeTree} → SameTypes a b → is_natural a ≡ true → is_natural b ≡ true → SameNaturals a b
  naturals_of_same (same_naturals n m h) e f = h
  naturals_of_same (same_sum {a} {b} {c} {d} h g) e f = let n = and_parts _ _ e in let m = and_parts _ _ f in sum_naturals a b c d (naturals_of_same h n.0 m.0) (naturals_of_same g n.1 m.1)
  naturals_of_same (same_product {a} {b} {c} {d} h g) e f = let n = and_parts _ _ e in let m = and_parts _ _ f in product_naturals a b c d (naturals_of_same h n.0 m.0) (naturals_of_same g n.1 m.1)
  naturals_of_same same_domain e f = absurd (cc)
  naturals_of_same (same_scalar h) e f = absurd (cc)
  naturals_of_same (same_vector h g) e f = absurd (cc)
  naturals_of_same (same_data h) e f = absurd (cc)
  naturals_of_same (same_fun h g) e f = absurd (cc)
  naturals_of_same (same_signal h g) e f = absurd (cc)
  naturals_of_same (same_for_all h) e f = absurd (cc)

by_parts : {a b : TypeTree} → SameTypes a b → ((is_natural a && is_natural b) ≡ false → same_parts a b ≡ true) → same_from a b (same_parts a b) ≡ true
by_parts {a} {b} h parts = to_from a b (same_parts a b) (naturals_of_same h) parts

mutual
  unfolding same_parts

  pub parts_of_same : {a b : TypeTree} → SameTypes a b → (is_natural a && is_natural b) ≡ false → same_parts a b ≡ true
  parts_of_same (same_naturals n m h) e = let w = and_from _ _ n m in absurd (cc)
  parts_of_same (same_sum h g) e = and_from _ _ (by_parts h (parts_of_same h)) (by_parts g (parts_of_same g))
  parts_of_same (same_product h g) e = and_from _ _ (by_parts h (parts_of_same h)) (by_parts g (parts_of_same g))
  parts_of_same (same_domain {d}) e = eq-eqb d d refl
  parts_of_same (same_scalar {s} h) e = and_from _ _ (same_sort_self s) (by_parts h (parts_of_same h))
  parts_of_same (same_vector h g) e = and_from _ _ (by_parts h (parts_of_same h)) (by_parts g (parts_of_same g))
  parts_of_same (same_data {d} h) e = and_from _ _ (eq-eqb d d refl) (all_found h)
  parts_of_same (same_fun h g) e = and_from _ _ (by_parts h (parts_of_same h)) (by_parts g (parts_of_same g))
  parts_of_same (same_signal h g) e = and_from _ _ (by_parts h (parts_of_same h)) (by_parts g (parts_of_same g))
  parts_of_same (same_for_all {k} h) e = and_from _ _ (same_kind_self k) (by_parts h (parts_of_same h))

  pub all_found : {ts us : TypeTrees} → SameAll ts us → same_all ts us ≡ true
  all_found same_none = refl
  all_found (same_and h hs) = and_from _ _ (by_parts h (parts_of_same h)) (all_found hs)

pub same_is_found : {a b : TypeTree} → SameTypes a b → same_found a b ≡ true
same_is_found h = by_parts h (parts_of_same h)

-- two data types, by their numbers and arguments
pub data_same : (d e : ℕ) (ts us : TypeTrees) (b : Bool) (x y : TypeTree) → data_of d ts ≡ x → data_of e us ≡ y → (eqb d e && same_all ts us) ≡ b → b ≡ same_found x y
unfolding is_natural same_from same_parts
data_same d e ts us b x y f g h = sym h ∙ (λ i. same_found (f i) (g i))

-- the number of arguments is wrong
pub all_lengths : (ts us : List TypeTree) → (length ts ≡ length us → ⊥) → same_all (trees_of ts) (trees_of us) ≡ false
unfolding same_parts
all_lengths [] [] h = absurd (h refl)
all_lengths [] (u ∷ us) h = refl
all_lengths (t ∷ ts) [] h = refl
all_lengths (t ∷ ts) (u ∷ us) h = ap (λ b. same_from t u (same_parts t u) && b) (all_lengths ts us (λ e. h (ap suc e))) ∙ and_no (same_from t u (same_parts t u))
  where
    and_no : (b : Bool) → (b && false) ≡ false
    and_no true = refl
    and_no false = refl

all_step : (ts us : List TypeTree) (i : ℕ) (t t' u u' : TypeTree) → i < length ts → i < length us → t ≡ get_or ts i t' → u ≡ get_or us i u' → same_all (trees_of (drop i ts)) (trees_of (drop i us)) ≡ (same_found t u && same_all (trees_of (drop (i + 1) ts)) (trees_of (drop (i + 1) us)))
unfolding same_parts
all_step ts us i t t' u u' h g e f = λ j. same_all (trees_of (next_dropped ts i t t' h e j)) (trees_of (next_dropped us i u u' g f j))

-- an argument is wrong
pub all_wrong : {r : Bool} (ts us : List TypeTree) (i : ℕ) (t t' u u' : TypeTree) → i < length ts → i < length us → t ≡ get_or ts i t' → u ≡ get_or us i u' → r ≡ same_found t u → r ≡ false → same_all (trees_of (drop i ts)) (trees_of (drop i us)) ≡ same_all (trees_of ts) (trees_of us) → same_all (trees_of ts) (trees_of us) ≡ false
all_wrong ts us i t t' u u' h g e f is n inv =
    sym inv ∙ all_step ts us i t t' u u' h g e f ∙ ap (λ b. b && same_all (trees_of (drop (i + 1) ts)) (trees_of (drop (i + 1) us))) (sym is ∙ n)

-- an argument is right
pub all_right : {r : Bool} (ts us : List TypeTree) (i : ℕ) (t t' u u' : TypeTree) → i < length ts → i < length us → t ≡ get_or ts i t' → u ≡ get_or us i u' → r ≡ same_found t u → r ≡ true → same_all (trees_of (drop i ts)) (trees_of (drop i us)) ≡ same_all (trees_of ts) (trees_of us) → same_all (trees_of (drop (i + 1) ts)) (trees_of (drop (i + 1) us)) ≡ same_all (trees_of ts) (trees_of us)
all_right ts us i t t' u u' h g e f is y inv =
    sym (all_step ts us i t t' u u' h g e f ∙ ap (λ b. b && same_all (trees_of (drop (i + 1) ts)) (trees_of (drop (i + 1) us))) (sym is ∙ y)) ∙ inv

-- all arguments were right
pub all_done : (ts us : List TypeTree) (i : ℕ) → length ts ≤ i → length ts ≡ length us → same_all (trees_of (drop i ts)) (trees_of (drop i us)) ≡ same_all (trees_of ts) (trees_of us) → same_all (trees_of ts) (trees_of us) ≡ true
unfolding same_parts
all_done ts us i h g inv = sym inv ∙ (λ j. same_all (trees_of (drop_all i ts h j)) (trees_of (drop_all i us (omega arith) j)))

pub data_lengths : (d e : ℕ) (ts us : List TypeTree) (x y : TypeTree) → data_of d (trees_of ts) ≡ x → data_of e (trees_of us) ≡ y → (length ts ≡ length us → ⊥) → false ≡ same_found x y
data_lengths d e ts us x y f g h =
    data_same d e (trees_of ts) (trees_of us) false x y f g (ap (λ b. eqb d e && b) (all_lengths ts us h) ∙ and_no (eqb d e))
  where
    and_no : (b : Bool) → (b && false) ≡ false
    and_no true = refl
    and_no false = refl

-- what is true exactly where two sums agree is the test of them
pub sums_decided : (b : Bool) (p q : Summands) → (IsTrue b ↔ Agrees p q) → b ≡ same_sums p q
sums_decided b p q h = same_from_decides b (same_sums p q) h (sums_agree p q, agreeing_sums p q)
