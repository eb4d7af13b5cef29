-- Sums of the weights of those numbers below a bound that pass a test.
use Rattle.std.proofs.Common.{◌≡◌, ℕ, zero, suc, ◌+◌, ◌<◌, ◌≤◌, Bool, true, false, arith, refl, ap}

abbrev portion : Bool → ℕ → ℕ
portion true w = w
portion false w = 0

abbrev pub weigh : (n : ℕ) → (ℕ → Bool) → (ℕ → ℕ) → ℕ
weigh zero P w = 0
weigh (suc n) P w = portion (P 0) (w 0) + weigh n (λ y. P (suc y)) (λ y. w (suc y))

portion_grows : (a b : Bool) (w : ℕ) → (a ≡ true → b ≡ true) → portion a w ≤ portion b w
portion_grows true true w h = omega arith
portion_grows true false w h = let e : false ≡ true = h refl in absurd cc
portion_grows false true w h = omega arith
portion_grows false false w h = omega arith

-- a test that more pass weighs as much at least
weigh_more : (n : ℕ) (P Q : ℕ → Bool) (w : ℕ → ℕ) → ((y : ℕ) → P y ≡ true → Q y ≡ true) → weigh n P w ≤ weigh n Q w
weigh_more zero P Q w h = omega arith
weigh_more (suc n) P Q w h =
    let first : portion (P 0) (w 0) ≤ portion (Q 0) (w 0) = portion_grows (P 0) (Q 0) (w 0) (h 0) in
    let rest : weigh n (λ y. P (suc y)) (λ y. w (suc y)) ≤ weigh n (λ y. Q (suc y)) (λ y. w (suc y)) =
    weigh_more n (λ y. P (suc y)) (λ y. Q (suc y)) (λ y. w (suc y)) (λ y. h (suc y)) in
    omega (arith, first, rest)

-- one number that passes in addition adds its weight
pub weigh_exceeds : (n : ℕ) (P Q : ℕ → Bool) (w : ℕ → ℕ) (c : ℕ) → c < n → P c ≡ false → Q c ≡ true → ((y : ℕ) → P y ≡ true → Q y ≡ true) → weigh n P w + w c ≤ weigh n Q w
weigh_exceeds zero P Q w c l fails is h = absurd (omega (arith, l))
weigh_exceeds (suc n) P Q w zero l fails is h =
    let none : portion (P 0) (w 0) ≡ 0 = ap (λ b. portion b (w 0)) fails in
    let all : portion (Q 0) (w 0) ≡ w 0 = ap (λ b. portion b (w 0)) is in
    let rest : weigh n (λ y. P (suc y)) (λ y. w (suc y)) ≤ weigh n (λ y. Q (suc y)) (λ y. w (suc y)) =
    weigh_more n (λ y. P (suc y)) (λ y. Q (suc y)) (λ y. w (suc y)) (λ y. h (suc y)) in
    omega (arith, none, all, rest)
weigh_exceeds (suc n) P Q w (suc c) l fails is h =
    let first : portion (P 0) (w 0) ≤ portion (Q 0) (w 0) = portion_grows (P 0) (Q 0) (w 0) (h 0) in
    let rest : weigh n (λ y. P (suc y)) (λ y. w (suc y)) + w (suc c) ≤ weigh n (λ y. Q (suc y)) (λ y. w (suc y)) =
    weigh_exceeds n (λ y. P (suc y)) (λ y. Q (suc y)) (λ y. w (suc y)) c (omega (arith, l)) fails is (λ y. h (suc y)) in
    omega (arith, first, rest)
