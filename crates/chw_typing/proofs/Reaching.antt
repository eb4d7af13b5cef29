-- Which numbers steps lead to, found by a test of single steps.
use Rattle.std.proofs.Common.{◌≡◌, ℕ, suc, zero, ◌<◌, Bool, true, false, ◌||◌, ◌&&◌, ◌⊎◌, inl, inr, subst, arith}
use Rattle.std.proofs.lemmas.Bool.{and_from, and_parts, false_from_ne_true, or_cases, or_left, or_right}
use Rattle.graph_order.specs.References.{Leads, step, step_and, HasNoCycle}
use Rattle.chw_typing.proofs.TestCounts.{count_below, count_misses, count_exceeds, below_or_last}

leads_on : {Step : ℕ → ℕ → Type 0} {a b c : ℕ} → Leads Step a b → Leads Step b c → Leads Step a c
leads_on (step s) more = step_and s more
leads_on (step_and s first) more = step_and s (leads_on first more)

module _ (goes : ℕ → ℕ → Bool) where
  -- whether steps lead from one to the other with only numbers below k between them
  abbrev reach : ℕ → ℕ → ℕ → Bool
  reach zero a b = goes a b
  reach (suc k) a b = reach k a b || (reach k a k && reach k k b)

  reach_step : (n a b : ℕ) → goes a b ≡ true → reach n a b ≡ true
  reach_step zero a b h = h
  reach_step (suc n) a b h = or_left (reach n a b) _ (reach_step n a b h)

  reach_by : (k a b : ℕ) → reach k a k ≡ true → reach k k b ≡ true → reach (suc k) a b ≡ true
  reach_by k a b h g = or_right (reach k a b) _ (and_from (reach k a k) (reach k k b) h g)

  reach_to_last : (k a : ℕ) → reach (suc k) a k ≡ true → reach k a k ≡ true
  reach_to_last k a h = elim (or_cases (reach k a k) (reach k a k && reach k k k) h) [ inl g ↦ g | inr g ↦ (and_parts (reach k a k) (reach k k k) g).0 ]

  reach_from_last : (k b : ℕ) → reach (suc k) k b ≡ true → reach k k b ≡ true
  reach_from_last k b h = elim (or_cases (reach k k b) (reach k k k && reach k k b) h) [ inl g ↦ g | inr g ↦ (and_parts (reach k k k) (reach k k b) g).1 ]

  -- steps that meet in b, each with or without the last number between its ends
  reach_around : (k a b c : ℕ) → ((x y : ℕ) → reach k x b ≡ true → reach k b y ≡ true → reach k x y ≡ true)
      → (reach k a b ≡ true) ⊎ ((reach k a k && reach k k b) ≡ true) → (reach k b c ≡ true) ⊎ ((reach k b k && reach k k c) ≡ true) → reach (suc k) a c ≡ true
  reach_around k a b c on (inl p) (inl q) = or_left (reach k a c) _ (on a c p q)
  reach_around k a b c on (inl p) (inr q) = reach_by k a c (on a k p (and_parts (reach k b k) (reach k k c) q).0) (and_parts (reach k b k) (reach k k c) q).1
  reach_around k a b c on (inr p) (inl q) = reach_by k a c (and_parts (reach k a k) (reach k k b) p).0 (on k c (and_parts (reach k a k) (reach k k b) p).1 q)
  reach_around k a b c on (inr p) (inr q) = reach_by k a c (and_parts (reach k a k) (reach k k b) p).0 (and_parts (reach k b k) (reach k k c) q).1

  -- steps that go on from a number below the bound
  reach_on : (k a b c : ℕ) → b < k → reach k a b ≡ true → reach k b c ≡ true → reach k a c ≡ true
  reach_on zero a b c l h g = absurd (omega arith)
  reach_on (suc k) a b c l h g =
      elim (below_or_last b k l) as (λ _. reach (suc k) a c ≡ true) [
        | inl m ↦ reach_around k a b c (λ x y. reach_on k x b y m) (or_cases (reach k a b) _ h) (or_cases (reach k b c) _ g)
        | inr m ↦ reach_by k a c (reach_to_last k a (subst (λ i. reach (suc k) a i ≡ true) m h)) (reach_from_last k c (subst (λ i. reach (suc k) i c ≡ true) m g))
      ]

  module _ (Step : ℕ → ℕ → Type 0) (to_step : (a b : ℕ) → goes a b ≡ true → Step a b) where
    reach_leads : (k a b : ℕ) → reach k a b ≡ true → Leads Step a b
    reach_leads zero a b h = step (to_step a b h)
    reach_leads (suc k) a b h =
        elim (or_cases (reach k a b) _ h) as (λ _. Leads Step a b) [
          | inl p ↦ reach_leads k a b p
          | inr p ↦ leads_on (reach_leads k a k (and_parts (reach k a k) (reach k k b) p).0) (reach_leads k k b (and_parts (reach k a k) (reach k k b) p).1)
        ]

    module _ (none : HasNoCycle Step) (n : ℕ) where
      not_back : (a : ℕ) → reach n a a ≡ false
      not_back a = false_from_ne_true (reach n a a) (λ h. none a (reach_leads n a a h))

      -- how many numbers are led to: this falls along each step
      pub place_of : ℕ → ℕ
      place_of a = count_below n (reach n a)

      pub place_within : (a : ℕ) → a < n → place_of a < n
      unfolding place_of
      place_within a l = count_misses n a (reach n a) l (not_back a)

      pub place_earlier : (a b : ℕ) → b < n → goes a b ≡ true → place_of b < place_of a
      unfolding place_of
      place_earlier a b l h = let s = reach_step n a b h in count_exceeds n b (reach n b) (reach n a) (λ c m g. reach_on n a b c l s g) l (not_back b) s
