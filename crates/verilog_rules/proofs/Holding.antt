-- All checks of a list hold, one by one.
use Rattle.std.proofs.Common.{◌≡◌, ℕ, Bool, true, false, cond, List, [], ◌∷◌, ◌++◌, map, Option, Some, None, refl, arith}
use Rattle.std.specs.List.{AllByRecursion, flat_map}
use Rattle.verilog_rules.specs.Checks.{Check, Hold, least_broken, lesser}

-- each check holds
abbrev pub AllTrue : List Check → Type 0
AllTrue [] = Unit {0}
AllTrue (c ∷ checks) = (c.holds ≡ true) × AllTrue checks

some_is_not_none : (a : ℕ) (rest : Option ℕ) → lesser (Some a) rest ≡ None → ⊥
some_is_not_none a None is = grind arith
some_is_not_none a (Some b) is = grind arith

pub all_true : (checks : List Check) → Hold checks → AllTrue checks
all_true [] held = tt
all_true (c ∷ checks) held = by_case c.holds refl held (all_true checks)
  where
    by_case : (b : Bool) → c.holds ≡ b → lesser (cond b None (Some c.at)) (least_broken checks) ≡ None → (Hold checks → AllTrue checks) → AllTrue (c ∷ checks)
    by_case true is rest later = (is, later rest)
    by_case false is rest later = absurd (some_is_not_none c.at (least_broken checks) rest)

pub hold : (checks : List Check) → AllTrue checks → Hold checks
hold [] all = refl
hold (c ∷ checks) all = rw all.0 (hold checks all.1)

pub first_part : (xs ys : List Check) → AllTrue (xs ++ ys) → AllTrue xs
first_part [] ys all = tt
first_part (x ∷ xs) ys all = (all.0, first_part xs ys all.1)

pub second_part : (xs ys : List Check) → AllTrue (xs ++ ys) → AllTrue ys
second_part [] ys all = all
second_part (x ∷ xs) ys all = second_part xs ys all.1

pub both_parts : (xs ys : List Check) → AllTrue xs → AllTrue ys → AllTrue (xs ++ ys)
both_parts [] ys first second = second
both_parts (x ∷ xs) ys first second = (first.0, both_parts xs ys first.1 second)

-- the checks of each of a list
pub each_part : {A : Type 0} (f : A → List Check) (xs : List A) → AllTrue (flat_map f xs) → AllByRecursion (λ x. AllTrue (f x)) xs
each_part f [] all = tt
each_part f (x ∷ xs) all = (first_part (f x) (flat_map f xs) all, each_part f xs (second_part (f x) (flat_map f xs) all))

pub all_parts : {A : Type 0} (f : A → List Check) (xs : List A) → AllByRecursion (λ x. AllTrue (f x)) xs → AllTrue (flat_map f xs)
all_parts f [] all = tt
all_parts f (x ∷ xs) all = both_parts (f x) (flat_map f xs) all.0 (all_parts f xs all.1)

pub each_one : {A : Type 0} (f : A → Check) (xs : List A) → AllTrue (map f xs) → AllByRecursion (λ x. (f x).holds ≡ true) xs
each_one f [] all = tt
each_one f (x ∷ xs) all = (all.0, each_one f xs all.1)

pub all_ones : {A : Type 0} (f : A → Check) (xs : List A) → AllByRecursion (λ x. (f x).holds ≡ true) xs → AllTrue (map f xs)
all_ones f [] all = tt
all_ones f (x ∷ xs) all = (all.0, all_ones f xs all.1)
