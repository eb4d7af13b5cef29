-- The order of places, and places apart.
use Rattle.std.proofs.Common.{◌≡◌, ◌≢◌, ◌⊎◌, inl, inr, ℕ, ◌<◌, ◌≤◌, refl, sym, ap, ◌∙◌, subst, arith, List, [], ◌∷◌, Option, Some, None}
use Rattle.std.specs.Prelude.{unwrap_or, option_map, option_and_then}
use Rattle.std.proofs.lemmas.Bool.{cases_lt, cases_eq}
use Rattle.chw_terms.specs.TermTree.{TermTree}
use Rattle.chw_typing.specs.Paths.{child, with_child, part_at, with_part, IsEarlier, AreApart}
use Rattle.chw_typing.proofs.PathChildren.{child_of_with_child, child_apart}
use Rattle.chw_typing.proofs.PathParts.{part_below, with_part_below}

pub never_earlier : (p : List ℕ) → IsEarlier p p → ⊥
never_earlier [] h = h
never_earlier (i ∷ p) (inl l) = absurd (omega (arith, l))
never_earlier (i ∷ p) (inr h) = never_earlier p h.1

pub earlier_through : (p q r : List ℕ) → IsEarlier p q → IsEarlier q r → IsEarlier p r
earlier_through [] [] r h g = absurd h
earlier_through [] (j ∷ q) [] h g = absurd g
earlier_through [] (j ∷ q) (k ∷ r) h g = tt
earlier_through (i ∷ p) [] r h g = absurd h
earlier_through (i ∷ p) (j ∷ q) [] h g = absurd g
earlier_through (i ∷ p) (j ∷ q) (k ∷ r) (inl l) (inl m) = inl (omega (arith, l, m))
earlier_through (i ∷ p) (j ∷ q) (k ∷ r) (inl l) (inr m) = inl (subst (λ n. i < n) m.0 l)
earlier_through (i ∷ p) (j ∷ q) (k ∷ r) (inr l) (inl m) = inl (subst (λ n. n < k) (sym l.0) m)
earlier_through (i ∷ p) (j ∷ q) (k ∷ r) (inr l) (inr m) = inr (l.0 ∙ m.0, earlier_through p q r l.1 m.1)

one_or_other : (i j : ℕ) (p q : List ℕ) → (i < j) ⊎ (j ≤ i) → (i ≡ j) ⊎ (i ≢ j) → (p ≡ q) ⊎ (IsEarlier p q ⊎ IsEarlier q p) → (i ∷ p ≡ j ∷ q) ⊎ (IsEarlier (i ∷ p) (j ∷ q) ⊎ IsEarlier (j ∷ q) (i ∷ p))
one_or_other i j p q a (inl e) (inl f) = inl (λ k. e k ∷ f k)
one_or_other i j p q a (inl e) (inr (inl h)) = inr (inl (inr (e, h)))
one_or_other i j p q a (inl e) (inr (inr h)) = inr (inr (inr (sym e, h)))
one_or_other i j p q (inl l) (inr n) d = inr (inl (inl l))
one_or_other i j p q (inr l) (inr n) d = inr (inr (inl (omega (arith, l, n))))

pub one_is_earlier : (p q : List ℕ) → (p ≡ q) ⊎ (IsEarlier p q ⊎ IsEarlier q p)
one_is_earlier [] [] = inl refl
one_is_earlier [] (j ∷ q) = inr (inl tt)
one_is_earlier (i ∷ p) [] = inr (inr tt)
one_is_earlier (i ∷ p) (j ∷ q) = one_or_other i j p q (cases_lt i j) (cases_eq i j) (one_is_earlier p q)

-- below one child, or below two
apart_below : (i : ℕ) (p q : List ℕ) (e x : TermTree) (o : Option TermTree) → child e i ≡ o → ((c : TermTree) → part_at (with_part c p x) q ≡ part_at c q) → part_at (with_part e (i ∷ p) x) (i ∷ q) ≡ part_at e (i ∷ q)
apart_below i p q e x None h below = ap (λ f. part_at f (i ∷ q)) (ap (λ o. unwrap_or (option_map (λ c. with_child e i (with_part c p x)) o) e) h)
apart_below i p q e x (Some c) h below =
    ap (λ f. part_at f (i ∷ q)) (with_part_below e c x i p h)
    ∙ part_below (with_child e i (with_part c p x)) (with_part c p x) i q (child_of_with_child e c (with_part c p x) i h)
    ∙ below c
    ∙ sym (part_below e c i q h)

apart_beside : (i j : ℕ) (p q : List ℕ) (e x : TermTree) (o : Option TermTree) → i ≢ j → child e i ≡ o → part_at (with_part e (i ∷ p) x) (j ∷ q) ≡ part_at e (j ∷ q)
apart_beside i j p q e x None n h = ap (λ f. part_at f (j ∷ q)) (ap (λ o. unwrap_or (option_map (λ c. with_child e i (with_part c p x)) o) e) h)
apart_beside i j p q e x (Some c) n h =
    ap (λ f. part_at f (j ∷ q)) (with_part_below e c x i p h) ∙ ap (option_and_then (λ c. part_at c q)) (child_apart e (with_part c p x) i j n)

pub parts_apart : (p q : List ℕ) (e x : TermTree) → AreApart p q → part_at (with_part e p x) q ≡ part_at e q
parts_apart [] q e x h = absurd h
parts_apart (i ∷ p) [] e x h = absurd h
parts_apart (i ∷ p) (j ∷ q) e x (inl n) = apart_beside i j p q e x (child e i) n refl
parts_apart (i ∷ p) (j ∷ q) e x (inr h) =
    ap (λ k. part_at (with_part e (i ∷ p) x) (k ∷ q)) (sym h.0) ∙ apart_below i p q e x (child e i) refl (λ c. parts_apart p q c x h.1) ∙ ap (λ k. part_at e (k ∷ q)) h.0
