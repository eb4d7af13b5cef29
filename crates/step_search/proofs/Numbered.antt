-- The first step among places with numbers, whose paths are in the order of the numbers.
use Rattle.std.proofs.Common.{◌≡◌, ◌⊎◌, inl, inr, ℕ, suc, ◌<◌, ◌≤◌, ◌∙◌, sym, ap, subst, arith}
use Rattle.std.proofs.Common.{List, true, false, Option, Some, None}
use Rattle.std.proofs.lemmas.Bool.{cases_lt, false≢true}
use Rattle.std.specs.Option.{is_some}
use Rattle.chw_terms.specs.declared.rule.Rule.{Rule}
use Rattle.chw_terms.specs.TermTree.{TermTree}
use Rattle.rewriting.specs.Origins.{Origins}
use Rattle.rewriting.specs.Spots.{Spot}
use Rattle.step_search.specs.First.{Additions, Places, AtPath, From, HasNoStepAt, FindsFirst}
use Rattle.step_search.specs.Passed.{OfFirst, Paths}
use Rattle.step_search.specs.declared.trail.Trail.{Trail}
use Rattle.active_parts.proofs.Ways.{AreInOrder}
use Rattle.step_search.proofs.Firsts.{Either, Among, AllInOrder, from_among, step_among}
use Rattle.step_search.proofs.Firsts.{finds_same, no_places, found_in_first, found_in_second}

-- those of the numbers behind this one
abbrev OfLater : Places → Paths → ℕ → ℕ → Places
OfLater s w n m p at e = (i : ℕ) × (n < i) × (i < m) × (p ≡ w i) × s p at e

-- there are only those of the first n numbers
abbrev pub HaveNumbers : Places → Paths → ℕ → Type 0
HaveNumbers s w n =
    (p : List ℕ) (at : Spot) (e : TermTree) → s p at e → (i : ℕ) × (i < n) × (p ≡ w i)

-- the paths are in the order of these numbers
abbrev pub InOrder : Paths → ℕ → Type 0
InOrder w n = (i j : ℕ) → i < j → j < n → AreInOrder (w i) (w j)

none_of_nothing : (n : ℕ) → n < 0 → ⊥
none_of_nothing n l = omega (arith, l)

pub none_at_first : (rules : List Rule) (o : Origins) (s : Places) (w : Paths) (from : List ℕ)
    → HasNoStepAt rules o (From o (OfFirst s w 0)) from
none_at_first rules o s w from =
    no_places rules o (OfFirst s w 0) from (λ p at e h. none_of_nothing h.0 h.1)

next_places : (s : Places) (w : Paths) (n : ℕ)
    → Among (OfFirst s w (suc n)) (Either (OfFirst s w n) (AtPath s (w n)))
next_places s w n p at e h = by (cases_lt h.0 n)
  where
    by : (h.0 < n) ⊎ (n ≤ h.0) → Either (OfFirst s w n) (AtPath s (w n)) p at e
    by (inl l) = inl (h.0, l, h.2, h.3)
    by (inr l) = let is : h.0 ≡ n = omega (arith, l, h.1) in inr (h.2 ∙ ap w is, h.3)

-- nothing was found
nothing : (P : Option Trail → Type 0) (found : Option Trail) → is_some found ≡ false
    → P found → P None
nothing P None h p = p
nothing P (Some f) h p = absurd (false≢true (sym h))

-- where nothing is found at a number either, there is none up to the next
pub none_up_to_next : (rules : List Rule) (o : Origins) (adds : Additions) (s : Places) (w : Paths) (n : ℕ)
    (from : List ℕ) (found : Option Trail) → is_some found ≡ false
    → HasNoStepAt rules o (From o (OfFirst s w n)) from
    → FindsFirst rules o adds (From o (AtPath s (w n))) from found
    → HasNoStepAt rules o (From o (OfFirst s w (suc n))) from
none_up_to_next rules o adds s w n from found empty none here p r e x =
    let last = nothing (FindsFirst rules o adds (From o (AtPath s (w n))) from) found empty here in
    let all = Either (OfFirst s w n) (AtPath s (w n)) in
    found_in_second rules o adds (OfFirst s w n) (AtPath s (w n)) from None none last p r e
    (step_among rules o (From o (OfFirst s w (suc n))) (From o all) from p r e
    (from_among o (OfFirst s w (suc n)) all (next_places s w n)) x)

-- where there is none up to the last number, there is none
pub none_at_all : (rules : List Rule) (o : Origins) (adds : Additions) (s : Places) (w : Paths) (n m : ℕ)
    (from : List ℕ) → HaveNumbers s w n → n ≤ m
    → HasNoStepAt rules o (From o (OfFirst s w m)) from
    → FindsFirst rules o adds (From o s) from None
none_at_all rules o adds s w n m from all l none p r e x =
    none p r e
    (step_among rules o (From o s) (From o (OfFirst s w m)) from p r e
    (from_among o s (OfFirst s w m)
    (λ q at f h. let i = all q at f h in (i.0, omega (arith, l, i.1), i.2, h))) x)

-- the places before a number, at it and behind it
abbrev Parted : Places → Paths → ℕ → ℕ → Places
Parted s w n m = Either (OfFirst s w n) (Either (AtPath s (w n)) (OfLater s w n m))

to_parts : (s : Places) (w : Paths) (n m : ℕ) → HaveNumbers s w m → Among s (Parted s w n m)
to_parts s w n m all p at e h = by (cases_lt i n) (cases_lt n i)
  where
    it : (i : ℕ) × (i < m) × (p ≡ w i)
    it = all p at e h

    i : ℕ
    i = it.0

    by : (i < n) ⊎ (n ≤ i) → (n < i) ⊎ (i ≤ n) → Parted s w n m p at e
    by (inl l) k = inl (i, l, it.2, h)
    by (inr l) (inl k) = inr (inr (i, k, it.1, it.2, h))
    by (inr l) (inr k) = let is : i ≡ n = omega (arith, l, k) in inr (inl (it.2 ∙ ap w is, h))

of_parts : (s : Places) (w : Paths) (n m : ℕ) → Among (Parted s w n m) s
of_parts s w n m p at e (inl h) = h.3
of_parts s w n m p at e (inr (inl h)) = h.1
of_parts s w n m p at e (inr (inr h)) = h.4

later_in_order : (s : Places) (w : Paths) (n m : ℕ) → InOrder w m
    → AllInOrder (AtPath s (w n)) (OfLater s w n m)
later_in_order s w n m order p q at at' e e' h k =
    subst (λ z. AreInOrder z q) (sym h.0)
    (subst (λ z. AreInOrder (w n) z) (sym k.3) (order n k.0 k.1 k.2))

-- what is first at a number, where there is none before it, is first of all
pub found_at_number : (rules : List Rule) (o : Origins) (adds : Additions) (s : Places) (w : Paths) (n m : ℕ)
    (from : List ℕ) (found : Option Trail) → is_some found ≡ true
    → HaveNumbers s w m → InOrder w m
    → HasNoStepAt rules o (From o (OfFirst s w n)) from
    → FindsFirst rules o adds (From o (AtPath s (w n))) from found
    → FindsFirst rules o adds (From o s) from found
found_at_number rules o adds s w n m from None h all order none is = absurd (false≢true h)
found_at_number rules o adds s w n m from (Some f) h all order none is =
    let here = AtPath s (w n) in
    let later = OfLater s w n m in
    let parts = Parted s w n m in
    finds_same rules o adds (From o parts) (From o s) from (Some f)
    (from_among o parts s (of_parts s w n m)) (from_among o s parts (to_parts s w n m all))
    (found_in_second rules o adds (OfFirst s w n) (Either here later) from (Some f) none
    (found_in_first rules o adds here later from f (later_in_order s w n m order) is))
