-- The free variables of a term are those that occur, each once.
use Rattle.std.proofs.Common.{◌≡◌, ◌≢◌, ◌↔◌, ℕ, suc, ◌+◌, ◌-◌, ◌<◌, ◌≤◌, Bool, true, false, not, cond, ◌||◌, ◌==◌, nat_eq, if◌then◌else◌, List, [], ◌∷◌, ◌++◌, filter, All, AllPairs, Contains, ◌⊎◌, inl, inr, refl, sym, ap, ◌∙◌, arith, lt-ltb, le-ltb, eq-eqb, ne_eqb, eqb-true}
use Rattle.std.specs.List.{list_any}
use Rattle.std.proofs.lemmas.Bool.{true≢false, cases_lt, cases_eq, cond_both}
use Rattle.std.proofs.lemmas.Cmp.{nat_eq_equiv}
use Rattle.std.proofs.lemmas.List.Elements.{All-cons}
use Rattle.std.proofs.lemmas.List.Folds.{list_any-append}
use Rattle.std.proofs.lemmas.List.Kept.{AllPairs-cons, AllPairs-filter}
use Rattle.std.proofs.lemmas.Map.Views.{Contains-from_any, list_any-from_Contains}
use Rattle.chw_terms.specs.TermTree.{TermTree, var, global, made, lam, app, ty_lam, ty_app, letrec, con, prim, lit, vec_lit, case_of, Terms, no_terms, term_and, Group, no_bindings, bind, Alts, no_alts, alt, binders, size_of}
use Rattle.chw_terms.specs.Occurs.{occurs, occurs_all, occurs_group, occurs_alts}
use Rattle.chw_terms.specs.FreeVariables.{outside, occurrences, occurrences_all, occurrences_group, occurrences_alts, firsts, free_in}

-- the number is in the list
abbrev pub among : List ℕ → ℕ → Bool
among xs v = list_any (λ x. x == v) xs

or_nothing : (b : Bool) → (b || false) ≡ b
or_nothing true = refl
or_nothing false = refl

among_both : (xs ys : List ℕ) (v : ℕ) → among (xs ++ ys) v ≡ (among xs v || among ys v)
among_both xs ys v = list_any-append (λ x. x == v) xs ys

among_outside : (n : ℕ) (xs : List ℕ) (v : ℕ) → among (outside n xs) v ≡ among xs (v + n)
among_outside n [] v = refl
among_outside n (x ∷ xs) v = by (among_outside n xs v) (cases_lt x n)
  where
    less : n ≤ x → (x - n ≡ v) ⊎ (x - n ≢ v) → (x - n == v) ≡ (x == v + n)
    less h (inl e) = eq-eqb (x - n) v e ∙ sym (eq-eqb x (v + n) (omega (arith, h, e)))
    less h (inr e) = ne_eqb (x - n) v e ∙ sym (ne_eqb x (v + n) (λ d. e (omega (arith, h, d))))

    by : among (outside n xs) v ≡ among xs (v + n) → (x < n) ⊎ (n ≤ x) → among (outside n (x ∷ xs)) v ≡ among (x ∷ xs) (v + n)
    by rest (inl h) =
        ap (λ b. among (if b then outside n xs else (x - n) ∷ outside n xs) v) (lt-ltb x n h)
        ∙ rest
        ∙ ap (λ b. b || among xs (v + n)) (sym (ne_eqb x (v + n) (λ d. absurd (omega (arith, h, d)))))
    by rest (inr h) =
        ap (λ b. among (if b then outside n xs else (x - n) ∷ outside n xs) v) (le-ltb x n h)
        ∙ (λ i. less h (cases_eq (x - n) v) i || rest i)

-- the list of occurrences has a variable that occurs
mutual
  unfolding occurrences occurs

  pub among_occurrences : (e : TermTree) (v : ℕ) → among (occurrences e) v ≡ occurs e v
  among_occurrences (var x) v = or_nothing (x == v)
  among_occurrences (global d) v = refl
  among_occurrences (made m) v = refl
  among_occurrences (lam t e) v =
      let next : v + 1 ≡ suc v = omega arith in
      among_outside 1 (occurrences e) v ∙ ap (among (occurrences e)) next ∙ among_occurrences e (suc v)
  among_occurrences (app f a) v = among_both (occurrences f) (occurrences a) v ∙ (λ i. among_occurrences f v i || among_occurrences a v i)
  among_occurrences (ty_lam k e) v = among_occurrences e v
  among_occurrences (ty_app f t) v = among_occurrences f v
  among_occurrences (letrec g e) v =
      let n = size_of g in
      among_outside n (occurrences_group g ++ occurrences e) v
      ∙ among_both (occurrences_group g) (occurrences e) (v + n)
      ∙ (λ i. among_occurrences_group g (v + n) i || among_occurrences e (v + n) i)
  among_occurrences (con c) v = refl
  among_occurrences (prim p) v = refl
  among_occurrences (lit s bs) v = refl
  among_occurrences (vec_lit t es) v = among_occurrences_all es v
  among_occurrences (case_of s alts) v = among_both (occurrences s) (occurrences_alts alts) v ∙ (λ i. among_occurrences s v i || among_occurrences_alts alts v i)

  among_occurrences_all : (es : Terms) (v : ℕ) → among (occurrences_all es) v ≡ occurs_all es v
  among_occurrences_all no_terms v = refl
  among_occurrences_all (term_and e es) v = among_both (occurrences e) (occurrences_all es) v ∙ (λ i. among_occurrences e v i || among_occurrences_all es v i)

  among_occurrences_group : (g : Group) (v : ℕ) → among (occurrences_group g) v ≡ occurs_group g v
  among_occurrences_group no_bindings v = refl
  among_occurrences_group (bind t e g) v = among_both (occurrences e) (occurrences_group g) v ∙ (λ i. among_occurrences e v i || among_occurrences_group g v i)

  among_occurrences_alts : (alts : Alts) (v : ℕ) → among (occurrences_alts alts) v ≡ occurs_alts alts v
  among_occurrences_alts no_alts v = refl
  among_occurrences_alts (alt q e more) v =
      among_both (outside (binders q) (occurrences e)) (occurrences_alts more) v
      ∙ (λ i. (among_outside (binders q) (occurrences e) v ∙ among_occurrences e (v + binders q)) i || among_occurrences_alts more v i)

-- leaving one number out leaves each other one
among_others : (x v : ℕ) → x ≢ v → (xs : List ℕ) → among (filter (λ y. not (y == x)) xs) v ≡ among xs v
among_others x v apart [] = refl
among_others x v apart (y ∷ xs) = by (among_others x v apart xs) (cases_eq y x)
  where
    by : among (filter (λ y. not (y == x)) xs) v ≡ among xs v → (y ≡ x) ⊎ (y ≢ x) → among (filter (λ y. not (y == x)) (y ∷ xs)) v ≡ among (y ∷ xs) v
    by rest (inl e) =
        ap (λ b. among (cond (not b) (y ∷ filter (λ y. not (y == x)) xs) (filter (λ y. not (y == x)) xs)) v) (eq-eqb y x e)
        ∙ rest
        ∙ ap (λ b. b || among xs v) (sym (ne_eqb y v (λ d. apart (sym e ∙ d))))
    by rest (inr e) =
        ap (λ b. among (cond (not b) (y ∷ filter (λ y. not (y == x)) xs) (filter (λ y. not (y == x)) xs)) v) (ne_eqb y x e)
        ∙ ap (λ b. (y == v) || b) rest

among_firsts : (xs : List ℕ) (v : ℕ) → among (firsts xs) v ≡ among xs v
among_firsts [] v = refl
among_firsts (x ∷ xs) v = by (among_firsts xs v) (cases_eq x v)
  where
    by : among (firsts xs) v ≡ among xs v → (x ≡ v) ⊎ (x ≢ v) → among (firsts (x ∷ xs)) v ≡ among (x ∷ xs) v
    by rest (inl e) = ap (λ b. b || among (filter (λ y. not (y == x)) (firsts xs)) v) (eq-eqb x v e) ∙ ap (λ b. b || among xs v) (sym (eq-eqb x v e))
    by rest (inr e) = ap (λ b. (x == v) || b) (among_others x v e (firsts xs) ∙ rest)

-- the list has what a test finds
among_turned : (xs : List ℕ) (v : ℕ) → among xs v ≡ list_any (nat_eq v) xs
among_turned [] v = refl
among_turned (x ∷ xs) v = λ i. nat_eq_equiv.symm x v i || among_turned xs v i

-- an occurrence is listed
pub occurrences_occur : (e : TermTree) (x : ℕ) → Contains (occurrences e) x ↔ (occurs e x ≡ true)
occurrences_occur e x =
    (λ h. sym found ∙ list_any-from_Contains nat_eq_equiv x (occurrences e) h, λ h. Contains-from_any eqb-true x (occurrences e) (found ∙ h))
  where
    found : list_any (nat_eq x) (occurrences e) ≡ occurs e x
    found = sym (among_turned (occurrences e) x) ∙ among_occurrences e x

pub free_occur : (e : TermTree) (x : ℕ) → Contains (free_in e) x ↔ (occurs e x ≡ true)
free_occur e x =
    (λ h. sym found ∙ list_any-from_Contains nat_eq_equiv x (free_in e) h, λ h. Contains-from_any eqb-true x (free_in e) (found ∙ h))
  where
    found : list_any (nat_eq x) (free_in e) ≡ occurs e x
    found = sym (among_turned (free_in e) x) ∙ among_firsts (occurrences e) x ∙ among_occurrences e x

-- no number that is left is the one that was left out
others_apart : (x : ℕ) (xs : List ℕ) → All (λ y. x ≢ y) (filter (λ y. not (y == x)) xs)
others_apart x [] = λ k d within. absurd (omega (arith, within))
others_apart x (y ∷ xs) =
    cond_both (not (y == x)) (y ∷ filter (λ y. not (y == x)) xs) (filter (λ y. not (y == x)) xs) (All (λ y. x ≢ y))
    (λ h. All-cons (λ y. x ≢ y) y (filter (λ y. not (y == x)) xs) (λ e. true≢false (sym h ∙ ap not (eq-eqb y x (sym e)))) (others_apart x xs))
    (λ _. others_apart x xs)

firsts_distinct : (xs : List ℕ) → AllPairs (λ x y. x ≢ y) (firsts xs)
firsts_distinct [] = λ i j d below within. absurd (omega (arith, within))
firsts_distinct (x ∷ xs) =
    AllPairs-cons (λ x y. x ≢ y) x (filter (λ y. not (y == x)) (firsts xs)) (others_apart x (firsts xs)) (AllPairs-filter (λ x y. x ≢ y) (λ y. not (y == x)) (firsts xs) (firsts_distinct xs))

pub free_distinct : (e : TermTree) → AllPairs (λ x y. x ≢ y) (free_in e)
free_distinct e = firsts_distinct (occurrences e)
