-- A function that keeps some numbers below a bound among them comes back to one of them: the least that it comes back to, and the steps.
use Rattle.std.proofs.Common.{◌≡◌, ℕ, zero, suc, ◌+◌, ◌-◌, ◌<◌, ◌≤◌, ◌==◌, Bool, true, ◌&&◌, ◌⊎◌, inl, inr, ap, sym, ◌∙◌, arith}
use Rattle.std.proofs.lemmas.Bool.{and_parts, and_from, cases_lt, eqb-true, eq-eqb}
use Rattle.netlist.proofs.Finite.{First, Twice, first_passing, some_below, some_below_if, some_below_says, twice}

module _ (f : ℕ → ℕ) where
  -- what so many steps lead to
  abbrev pub after : ℕ → ℕ → ℕ
  after zero w = w
  after (suc k) w = f (after k w)

  pub after_sum : (a b w : ℕ) → after (a + b) w ≡ after a (after b w)
  after_sum zero b w = let e : 0 + b ≡ b = omega arith in ap (λ n. after n w) e
  after_sum (suc a) b w =
      let e : suc a + b ≡ suc (a + b) = omega arith in ap (λ n. after n w) e ∙ ap f (after_sum a b w)

  -- a number to which the steps come back, first after so many, and which is the least of those on the way
  pub record Period (marked : ℕ → Bool) : Type 0 where
    pub start : ℕ
    pub steps : ℕ
    pub is_marked : marked start ≡ true
    pub some : 1 ≤ steps
    pub back : after steps start ≡ start
    pub first : (j : ℕ) → 1 ≤ j → j < steps → after j start ≡ start → ⊥
    pub least : (i : ℕ) → start ≤ after i start

  module _ (marked : ℕ → Bool) (bound : ℕ) (below : (w : ℕ) → marked w ≡ true → w < bound) (keeps : (w : ℕ) → marked w ≡ true → marked (f w) ≡ true) where
    still : (k w : ℕ) → marked w ≡ true → marked (after k w) ≡ true
    still zero w e = e
    still (suc k) w e = keeps (after k w) (still k w e)

    comes_back : ℕ → ℕ → Bool
    comes_back w k = after (suc k) w == w

    -- a number comes back, in at most as many steps as the bound
    periodic : ℕ → Bool
    periodic w = marked w && some_below (comes_back w) bound

    periodic_if : (w k : ℕ) → marked w ≡ true → k < bound → after (suc k) w ≡ w → periodic w ≡ true
    unfolding periodic comes_back
    periodic_if w k m lt e =
        and_from (marked w) _ m (some_below_if (comes_back w) bound k lt (eq-eqb (after (suc k) w) w e))

    -- some marked number comes back
    some_periodic : (s : ℕ) → marked s ≡ true → (w : ℕ) × (w < bound) × (periodic w ≡ true)
    some_periodic s m = from (twice bound (λ i. after i s) (λ i le. below (after i s) (still i s m)))
      where
        from : Twice (λ i. after i s) bound → (w : ℕ) × (w < bound) × (periodic w ≡ true)
        from t =
            let w = after t.i s in
            let n = t.j - t.i - 1 in
            let steps : suc n + t.i ≡ t.j = omega (arith, t.before) in
            let back : after (suc n) w ≡ w = sym (after_sum (suc n) t.i s) ∙ ap (λ k. after k s) steps ∙ sym t.same in
            (w, below w (still t.i s m), periodic_if w n (still t.i s m) (omega (arith, t.before, t.within)) back)

    period_from : First periodic bound → Period marked
    unfolding periodic comes_back
    period_from f1 = from (first_passing (comes_back f1.number) bound found.0 found.1 found.2)
      where
        is : (marked f1.number ≡ true) × (some_below (comes_back f1.number) bound ≡ true)
        is = and_parts (marked f1.number) _ f1.passes

        found : (k : ℕ) × (k < bound) × (comes_back f1.number k ≡ true)
        found = some_below_says (comes_back f1.number) bound is.1

        from : First (comes_back f1.number) bound → Period marked
        from k1 = record {
          start = w;
          steps = suc k1.number;
          is_marked = is.0;
          some = omega arith;
          back = back;
          first = λ j some less e.
              let fails = k1.first (j - 1) (omega (arith, some, less)) in
              let one_more : suc (j - 1) ≡ j = omega (arith, some) in
              let again = eq-eqb (after (suc (j - 1)) w) w (ap (λ n. after n w) one_more ∙ e) in cc;
          least = λ i. least i (cases_lt (after i w) w);
        }
          where
            w : ℕ
            w = f1.number

            back : after (suc k1.number) w ≡ w
            back = eqb-true (after (suc k1.number) w) w k1.passes

            least : (i : ℕ) → (after i w < w) ⊎ (w ≤ after i w) → w ≤ after i w
            least i (inr le) = le
            least i (inl less) =
                let order : suc k1.number + i ≡ i + suc k1.number = omega arith in
                let too : after (suc k1.number) (after i w) ≡ after i w =
                sym (after_sum (suc k1.number) i w) ∙ ap (λ n. after n w) order ∙ after_sum i (suc k1.number) w ∙ ap (after i) back in
                let is_one = periodic_if (after i w) k1.number (still i w is.0) k1.below too in
                let fails = f1.first (after i w) less in absurd (cc)

    pub period : (s : ℕ) → marked s ≡ true → Period marked
    period s m = let w = some_periodic s m in period_from (first_passing periodic bound w.0 w.1 w.2)
