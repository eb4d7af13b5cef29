-- How many numbers below a bound pass a test.
use Rattle.std.proofs.Common.{◌≡◌, ℕ, suc, zero, ◌+◌, ◌<◌, ◌≤◌, Bool, true, false, ◌⊎◌, inl, inr, refl, ap, subst, arith}

-- one for a test that passes
one_if : Bool → ℕ
one_if true = 1
one_if false = 0

pub count_below : ℕ → (ℕ → Bool) → ℕ
count_below zero f = 0
count_below (suc n) f = count_below n f + one_if (f n)

one_most : (b : Bool) → one_if b ≤ 1
unfolding one_if
one_most true = omega arith
one_most false = omega arith

none_if : (b : Bool) → b ≡ false → one_if b ≡ 0
unfolding one_if
none_if b e = ap one_if e

some_if : (b : Bool) → b ≡ true → one_if b ≡ 1
unfolding one_if
some_if b e = ap one_if e

one_along : (a b : Bool) → (a ≡ true → b ≡ true) → one_if a ≤ one_if b
unfolding one_if
one_along true b h = let e = some_if b (h refl) in omega (arith, e)
one_along false b h = omega arith

pub below_or_last : (j n : ℕ) → j < suc n → (j < n) ⊎ (j ≡ n)
below_or_last j zero l = inr (omega arith)
below_or_last zero (suc n) l = inl (omega arith)
below_or_last (suc j) (suc n) l = elim (below_or_last j n (omega arith)) [ inl h ↦ inl (omega arith) | inr h ↦ inr (omega arith) ]

count_most : (n : ℕ) (f : ℕ → Bool) → count_below n f ≤ n
unfolding count_below
count_most zero f = omega arith
count_most (suc n) f = omega (arith, count_most n f, one_most (f n))

-- not all pass where one doesn't
pub count_misses : (n j : ℕ) (f : ℕ → Bool) → j < n → f j ≡ false → count_below n f < n
unfolding count_below
count_misses zero j f l e = absurd (omega arith)
count_misses (suc n) j f l e =
    elim (below_or_last j n l) as (λ _. count_below n f + one_if (f n) < suc n) [
      | inl h ↦ omega (arith, count_misses n j f h e, one_most (f n))
      | inr h ↦ let z = none_if (f n) (subst (λ k. f k ≡ false) h e) in omega (arith, count_most n f, z)
    ]

-- as many pass the second test as the first, where it passes whatever the first does
count_along : (n : ℕ) (f g : ℕ → Bool) → ((b : ℕ) → b < n → f b ≡ true → g b ≡ true) → count_below n f ≤ count_below n g
unfolding count_below
count_along zero f g h = omega arith
count_along (suc n) f g h = omega (arith, count_along n f g (λ b l. h b (omega arith)), one_along (f n) (g n) (h n (omega arith)))

-- and more, where one passes the second alone
pub count_exceeds : (n j : ℕ) (f g : ℕ → Bool) → ((b : ℕ) → b < n → f b ≡ true → g b ≡ true) → j < n → f j ≡ false → g j ≡ true → count_below n f < count_below n g
unfolding count_below
count_exceeds zero j f g h l e k = absurd (omega arith)
count_exceeds (suc n) j f g h l e k =
    let earlier : (b : ℕ) → b < n → f b ≡ true → g b ≡ true = λ b m. h b (omega arith) in
    elim (below_or_last j n l) as (λ _. count_below n f + one_if (f n) < count_below n g + one_if (g n)) [
      | inl m ↦ omega (arith, count_exceeds n j f g earlier m e k, one_along (f n) (g n) (h n (omega arith)))
      | inr m ↦
          let z = none_if (f n) (subst (λ i. f i ≡ false) m e) in
          let o = some_if (g n) (subst (λ i. g i ≡ true) m k) in
          omega (arith, count_along n f g earlier, z, o)
    ]
