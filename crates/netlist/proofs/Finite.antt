-- Tests of the numbers below a bound: whether one passes, the first that does, and two at which a function that stays below gives the same.
use Rattle.std.proofs.Common.{◌≡◌, ℕ, zero, suc, ◌<◌, ◌≤◌, ◌==◌, Bool, true, false, ◌⊎◌, inl, inr, refl, ap, sym, ◌∙◌, arith, if◌then◌else◌}
use Rattle.std.proofs.lemmas.Bool.{cases_eq, cases_lt, eqb-true, eq-eqb}

-- some number below the bound passes the test, or each fails it
pub some_or_none : (test : ℕ → Bool) (n : ℕ) → ((i : ℕ) × (i < n) × (test i ≡ true)) ⊎ ((i : ℕ) → i < n → test i ≡ false)
some_or_none test zero = inr (λ i lt. absurd (omega (arith, lt)))
some_or_none test (suc n) = by_last (test n) refl (some_or_none test n)
  where
    by_last : (b : Bool) → test n ≡ b → ((i : ℕ) × (i < n) × (test i ≡ true)) ⊎ ((i : ℕ) → i < n → test i ≡ false)
        → ((i : ℕ) × (i < suc n) × (test i ≡ true)) ⊎ ((i : ℕ) → i < suc n → test i ≡ false)
    by_last true e rest = inl (n, omega arith, e)
    by_last false e (inl x) = inl (x.0, omega (arith, x.1), x.2)
    by_last false e (inr none) = inr (λ i lt. each i lt (cases_lt i n))
      where
        each : (i : ℕ) → i < suc n → (i < n) ⊎ (n ≤ i) → test i ≡ false
        each i lt (inl less) = none i less
        each i lt (inr le) = let is : i ≡ n = omega (arith, lt, le) in ap test is ∙ e

abbrev answer : (test : ℕ → Bool) (n : ℕ) → ((i : ℕ) × (i < n) × (test i ≡ true)) ⊎ ((i : ℕ) → i < n → test i ≡ false) → Bool
answer test n (inl x) = true
answer test n (inr none) = false

-- whether some number below the bound passes
pub some_below : (test : ℕ → Bool) (n : ℕ) → Bool
some_below test n = answer test n (some_or_none test n)

pub some_below_says : (test : ℕ → Bool) (n : ℕ) → some_below test n ≡ true → (i : ℕ) × (i < n) × (test i ≡ true)
unfolding some_below
some_below_says test n e = from (some_or_none test n) e
  where
    from : (o : ((i : ℕ) × (i < n) × (test i ≡ true)) ⊎ ((i : ℕ) → i < n → test i ≡ false)) → answer test n o ≡ true → (i : ℕ) × (i < n) × (test i ≡ true)
    from (inl x) e = x
    from (inr none) e = absurd (cc)

pub some_below_if : (test : ℕ → Bool) (n i : ℕ) → i < n → test i ≡ true → some_below test n ≡ true
unfolding some_below
some_below_if test n i lt passes = from (some_or_none test n)
  where
    from : (o : ((i : ℕ) × (i < n) × (test i ≡ true)) ⊎ ((i : ℕ) → i < n → test i ≡ false)) → answer test n o ≡ true
    from (inl x) = refl
    from (inr none) = absurd (let fails : test i ≡ false = none i lt in cc)

-- the first number that passes
pub record First (test : ℕ → Bool) (n : ℕ) : Type 0 where
  pub number : ℕ
  pub below : number < n
  pub passes : test number ≡ true
  pub first : (j : ℕ) → j < number → test j ≡ false

pub first_passing : (test : ℕ → Bool) (n i : ℕ) → i < n → test i ≡ true → First test n
first_passing test zero i lt e = absurd (omega (arith, lt))
first_passing test (suc n) i lt e = by_rest (some_or_none test n) (λ i lt e. first_passing test n i lt e)
  where
    by_rest : ((i : ℕ) × (i < n) × (test i ≡ true)) ⊎ ((i : ℕ) → i < n → test i ≡ false)
        → ((i : ℕ) → i < n → test i ≡ true → First test n) → First test (suc n)
    by_rest (inl x) rest =
        let f = rest x.0 x.1 x.2 in
        record { number = f.number; below = omega (arith, f.below); passes = f.passes; first = f.first }
    by_rest (inr none) rest = record { number = n; below = omega arith; passes = last (cases_lt i n); first = none }
      where
        last : (i < n) ⊎ (n ≤ i) → test n ≡ true
        last (inl less) = absurd (let fails : test i ≡ false = none i less in cc)
        last (inr le) = let is : i ≡ n = omega (arith, lt, le) in sym (ap test is) ∙ e

-- two places at which a function gives the same
pub record Twice (f : ℕ → ℕ) (n : ℕ) : Type 0 where
  pub i : ℕ
  pub j : ℕ
  pub before : i < j
  pub within : j ≤ n
  pub same : f i ≡ f j

-- the greatest number is given as another one
moved : ℕ → ℕ → ℕ → ℕ
moved n last x = if x == n then last else x

moved_same : (n last x : ℕ) → x ≡ n → moved n last x ≡ last
unfolding moved
moved_same n last x e = ap (λ b. if b then last else x) (eq-eqb x n e)

moved_other : (n last x : ℕ) → (x ≡ n → ⊥) → moved n last x ≡ x
unfolding moved
moved_other n last x differs = other (x == n) refl
  where
    other : (b : Bool) → (x == n) ≡ b → (if b then last else x) ≡ x
    other true e = absurd (differs (eqb-true x n e))
    other false e = refl

below_but : (n x : ℕ) → x < suc n → (x ≡ n → ⊥) → x < n
below_but n x lt differs = elim (cases_lt x n) [
  | inl less ↦ less
  | inr le ↦ absurd (differs (omega (arith, lt, le)))
]

-- where the function gives the greatest number only once, without it the function stays below
module _ (n : ℕ) (f : ℕ → ℕ) (below : (i : ℕ) → i ≤ suc n → f i < suc n) (only : (i : ℕ) → i < suc n → (f i == f (suc n)) ≡ false) where
  without : ℕ → ℕ
  without i = moved n (f (suc n)) (f i)

  other : (i : ℕ) → i ≤ n → f i ≡ f (suc n) → ⊥
  other i le e = let unlike : (f i == f (suc n)) ≡ false = only i (omega (arith, le)) in let like = eq-eqb (f i) (f (suc n)) e in cc

  Split : ℕ → Type 0
  Split i = ((f i ≡ n) × (without i ≡ f (suc n))) ⊎ ((f i ≡ n → ⊥) × (without i ≡ f i))

  split : (i : ℕ) → Split i
  unfolding without Split
  split i = elim (cases_eq (f i) n) [
    | inl e ↦ inl (e, moved_same n (f (suc n)) (f i) e)
    | inr differs ↦ inr (differs, moved_other n (f (suc n)) (f i) differs)
  ]

  split_below : (i : ℕ) → i ≤ n → Split i → without i < n
  unfolding Split
  split_below i le (inl x) =
      let lt = below_but n (f (suc n)) (below (suc n) (omega arith)) (λ e. other i le (x.0 ∙ sym e)) in omega (arith, lt, x.1)
  split_below i le (inr x) = let lt = below_but n (f i) (below i (omega (arith, le))) x.0 in omega (arith, lt, x.1)

  without_below : (i : ℕ) → i ≤ n → without i < n
  without_below i le = split_below i le (split i)

  split_same : (i j : ℕ) → i ≤ n → j ≤ n → without i ≡ without j → Split i → Split j → f i ≡ f j
  unfolding Split
  split_same i j le le' e (inl x) (inl y) = x.0 ∙ sym y.0
  split_same i j le le' e (inl x) (inr y) = absurd (other j le' (sym y.1 ∙ sym e ∙ x.1))
  split_same i j le le' e (inr x) (inl y) = absurd (other i le (sym x.1 ∙ e ∙ y.1))
  split_same i j le le' e (inr x) (inr y) = sym x.1 ∙ e ∙ y.1

  earlier : Twice without n → Twice f (suc n)
  earlier t = record {
    i = t.i;
    j = t.j;
    before = t.before;
    within = omega (arith, t.within);
    same = split_same t.i t.j (omega (arith, t.before, t.within)) t.within t.same (split t.i) (split t.j);
  }

-- one more number than there are below the bound: two are the same
pub twice : (n : ℕ) (f : ℕ → ℕ) → ((i : ℕ) → i ≤ n → f i < n) → Twice f n
twice zero f below = absurd (let b = below 0 (omega arith) in omega (arith, b))
twice (suc n) f below = by_last (some_or_none (λ i. f i == f (suc n)) (suc n)) (λ g b. twice n g b)
  where
    by_last : ((i : ℕ) × (i < suc n) × ((f i == f (suc n)) ≡ true)) ⊎ ((i : ℕ) → i < suc n → (f i == f (suc n)) ≡ false)
        → ((g : ℕ → ℕ) → ((i : ℕ) → i ≤ n → g i < n) → Twice g n) → Twice f (suc n)
    by_last (inl x) rest = record { i = x.0; j = suc n; before = x.1; within = omega arith; same = eqb-true (f x.0) (f (suc n)) x.2 }
    by_last (inr only) rest = earlier n f below only (rest (without n f below only) (without_below n f below only))
