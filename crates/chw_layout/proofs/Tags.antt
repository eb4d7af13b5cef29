-- The fewest bits that count so many things.
use Rattle.std.proofs.Common.{◌≡◌, ℕ, suc, zero, ◌+◌, ◌<◌, ◌≤◌, ◌^◌, Bool, true, false, refl, sym, subst, arith}
use Rattle.std.specs.Prelude.{if◌then◌else◌, nat_le}
use Rattle.std.proofs.lemmas.Bool.{leb-true, le-leb}
use Rattle.std.proofs.Math.Pow.{pow_mono}
use Rattle.chw_layout.specs.Measured.{first_width, tag_width}

-- a number is below 2 to itself
pub below_power : (n : ℕ) → n < 2 ^ n
below_power zero = omega arith
below_power (suc n) = let w = below_power n in omega arith

-- r is the first width from k on that is enough for n
record Found (n k r : ℕ) : Type 0 where
  suffices : n ≤ 2 ^ r
  from : k ≤ r
  shortest : (j : ℕ) → k ≤ j → n ≤ 2 ^ j → r ≤ j

step : (n k r : ℕ) (b : Bool) → (b ≡ true → n ≤ 2 ^ k) → (n ≤ 2 ^ k → b ≡ true) → ((n ≤ 2 ^ k → ⊥) → Found n (k + 1) r) → Found n k (if b then k else r)
step n k r true h g later = record { suffices = h refl; from = omega arith; shortest = λ j l e. l }
step n k r false h g later =
    let w = later (λ e. absurd (let f = g e in cc)) in
    record {
      suffices = w.suffices;
      from = let l = w.from in omega arith;
      shortest = λ j l e. w.shortest j (not_here n k j (λ f. absurd (let c = g f in cc)) l e) e;
    }
  where
    not_here : (n k j : ℕ) → (n ≤ 2 ^ k → ⊥) → k ≤ j → n ≤ 2 ^ j → k + 1 ≤ j
    not_here n k j h l e = let ne : k ≡ j → ⊥ = λ p. h (subst (λ i. n ≤ 2 ^ i) (sym p) e) in omega arith

searched : (tries k n : ℕ) → n ≤ 2 ^ (tries + k) → Found n k (first_width tries k n)
searched zero k n h = record { suffices = subst (λ i. n ≤ 2 ^ i) (let e : 0 + k ≡ k = omega arith in e) h; from = omega arith; shortest = λ j l e. l }
searched (suc tries) k n h =
    step n k (first_width tries (k + 1) n) (nat_le n (2 ^ k)) (leb-true n (2 ^ k)) (le-leb n (2 ^ k))
    (λ no. searched tries (k + 1) n (subst (λ i. n ≤ 2 ^ i) (let e : suc tries + k ≡ tries + (k + 1) = omega arith in e) h))

pub tag_suffices : (n : ℕ) → n ≤ 2 ^ tag_width n
tag_suffices n = (searched n 0 n (let w = below_power n in subst (λ i. n ≤ 2 ^ i) (let e : n ≡ n + 0 = omega arith in e) (omega arith))).suffices

pub tag_shortest : (n k : ℕ) → n ≤ 2 ^ k → tag_width n ≤ k
tag_shortest n k e = (searched n 0 n (let w = below_power n in subst (λ i. n ≤ 2 ^ i) (let p : n ≡ n + 0 = omega arith in p) (omega arith))).shortest k (omega arith) e

-- what is enough where one less is not is the tag's width
pub tag_is : (n k : ℕ) → n ≤ 2 ^ suc k → 2 ^ k < n → suc k ≡ tag_width n
tag_is n k h l =
    let few = tag_shortest n (suc k) h in
    let enough = tag_suffices n in
    let more : k < tag_width n = not_less (tag_width n) k (λ w. absurd (let p = pow_mono {i = tag_width n} {j = k} w in omega arith)) in
    omega arith
  where
    not_less : (a b : ℕ) → (a ≤ b → ⊥) → b < a
    not_less a b h = omega arith

pub no_tag : (n : ℕ) → n < 2 → 0 ≡ tag_width n
no_tag n h = let w = tag_shortest n 0 (omega arith) in omega arith
