-- As many different numbers below a limit are at most the limit.
use Rattle.std.proofs.Common.{◌≡◌, ℕ, zero, suc, ◌<◌, ◌≤◌, ◌==◌, Bool, true, false, ◌||◌, arith, List, [], ◌∷◌, ◌++◌, length, refl, subst}
use Rattle.std.specs.List.{AllByRecursion}
use Rattle.std.proofs.lemmas.Bool.{eqb-true, eqb-false}
use Rattle.net_built.specs.Modules.{holds}

-- no number stands twice
abbrev pub Distinct : List ℕ → Type 0
Distinct [] = Unit {0}
Distinct (k ∷ ks) = (holds ks k ≡ false) × Distinct ks

abbrev pub AllBelow : ℕ → List ℕ → Type 0
AllBelow n ks = AllByRecursion (λ k. k < n) ks

first_false : (a b : Bool) → (a || b) ≡ false → a ≡ false
first_false true b e = e
first_false false b e = refl

second_false : (a b : Bool) → (a || b) ≡ false → b ≡ false
second_false true b e = absurd cc
second_false false b e = e

both_false : (a b : Bool) → a ≡ false → b ≡ false → (a || b) ≡ false
both_false true b e h = absurd cc
both_false false b e h = h

none_below : (n : ℕ) (ks : List ℕ) → holds ks n ≡ false → AllBelow (suc n) ks → AllBelow n ks
none_below n [] h l = tt
none_below n (k ∷ ks) h l =
    let other = eqb-false k n (first_false (k == n) (holds ks n) h) in
    let less = l.0 in
    (omega (arith, other, less), none_below n ks (second_false (k == n) (holds ks n) h) l.1)

-- the numbers but the greatest that there may be
record TakenOut (n : ℕ) (ks : List ℕ) : Type 0 where
  rest : List ℕ
  distinct : Distinct rest
  below : AllBelow n rest
  size : length ks ≤ suc (length rest)
  fewer : (x : ℕ) → holds ks x ≡ false → holds rest x ≡ false

one_more : (n k : ℕ) (ks : List ℕ) (b : Bool) → (k == n) ≡ b → holds ks k ≡ false → Distinct ks → k < suc n → AllBelow (suc n) ks → TakenOut n ks → TakenOut n (k ∷ ks)
one_more n k ks true e none d l below r =
    let is : k ≡ n = eqb-true k n e in
    record {
      rest = ks;
      distinct = d;
      below = none_below n ks (subst (λ k. holds ks k ≡ false) is none) below;
      size = omega arith;
      fewer = λ x h. second_false (k == x) (holds ks x) h;
    }
one_more n k ks false e none d l below r =
    let other = eqb-false k n e in
    let many = r.size in
    record {
      rest = k ∷ r.rest;
      distinct = (r.fewer k none, r.distinct);
      below = (omega (arith, other, l), r.below);
      size = omega (arith, many);
      fewer = λ x h. both_false (k == x) (holds r.rest x) (first_false (k == x) (holds ks x) h) (r.fewer x (second_false (k == x) (holds ks x) h));
    }

taken_out : (n : ℕ) (ks : List ℕ) → Distinct ks → AllBelow (suc n) ks → TakenOut n ks
taken_out n [] d l = record { rest = []; distinct = tt; below = tt; size = omega arith; fewer = λ x h. h }
taken_out n (k ∷ ks) d l = one_more n k ks (k == n) refl d.0 d.1 l.0 l.1 (taken_out n ks d.1 l.1)

pub distinct_few : (n : ℕ) (ks : List ℕ) → Distinct ks → AllBelow n ks → length ks ≤ n
distinct_few zero [] d l = omega arith
distinct_few zero (k ∷ ks) d l = let less = l.0 in absurd (omega (arith, less))
distinct_few (suc n) ks d l =
    let r = taken_out n ks d l in
    let rest = distinct_few n r.rest r.distinct r.below in
    let size = r.size in
    omega (arith, rest, size)

held_behind : (ks : List ℕ) (m x : ℕ) → holds ks x ≡ false → (m == x) ≡ false → holds (ks ++ m ∷ []) x ≡ false
held_behind [] m x h e = both_false (m == x) false e refl
held_behind (k ∷ ks) m x h e = both_false (k == x) (holds (ks ++ m ∷ []) x) (first_false (k == x) (holds ks x) h) (held_behind ks m x (second_false (k == x) (holds ks x) h) e)

not_true : (b : Bool) → (b ≡ true → ⊥) → b ≡ false
not_true true h = absurd (h refl)
not_true false h = refl

-- a number that isn't there may come behind the others
pub distinct_end : (ks : List ℕ) (m : ℕ) → Distinct ks → holds ks m ≡ false → Distinct (ks ++ m ∷ [])
distinct_end [] m d h = (refl, tt)
distinct_end (k ∷ ks) m d h =
    let other = eqb-false k m (first_false (k == m) (holds ks m) h) in
    let turned : (m == k) ≡ false = not_true (m == k) (λ e. let is : m ≡ k = eqb-true m k e in absurd (omega (arith, other, is))) in
    (held_behind ks m k d.0 turned, distinct_end ks m d.1 (second_false (k == m) (holds ks m) h))
