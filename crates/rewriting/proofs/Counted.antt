-- How many arguments a primitive on vectors has where it is unrolled.
use Rattle.std.proofs.Common.{◌≡◌, refl, ℕ, ◌+◌, arith, List, [], ◌∷◌, length, IsSome}
use Rattle.chw_types.specs.TypeTree.{TypeTree, nat_lit}
use Rattle.chw_prims.specs.Schemas.{row_type}
use Rattle.chw_prims.specs.declared.row.Row.{Row}
use Rattle.chw_prims.specs.declared.row.Row.TheVariants.{Binary, WideSum, WideProduct, Unary, Shift, Compare, Extend, Truncate, Cut, Joined, Reduce, Packed, Unpacked, Mapping, Applying, Constant, Delay, Memory, Crossing, Element, ElementAt, Replaced, Mapped, Zipped, FoldedLeft, FoldedRight, Generated, Replicated, Appended, Concatenated, Taken, Dropped, Reversed, Rotated}
use Rattle.chw_terms.specs.TermTree.{TermTree}
use Rattle.chw_terms.specs.Unrolled.{body_of, parameters, sized_1, sized_2, sized_3, twice_sized}
use Rattle.rewriting.specs.Spots.{asked_for}

-- a body for a number and one, two or three types, or for two numbers and a type, has so many types
for_two : (ts : List TypeTree) (f : ℕ → TypeTree → TermTree) → IsSome (sized_1 ts f) → length ts ≡ 2
for_two (nat_lit n ∷ a ∷ []) f h = refl
for_two ts f h = absurd cc

for_three : (ts : List TypeTree) (f : ℕ → TypeTree → TypeTree → TermTree) → IsSome (sized_2 ts f) → length ts ≡ 3
for_three (nat_lit n ∷ a ∷ b ∷ []) f h = refl
for_three ts f h = absurd cc

for_four : (ts : List TypeTree) (f : ℕ → TypeTree → TypeTree → TypeTree → TermTree) → IsSome (sized_3 ts f) → length ts ≡ 4
for_four (nat_lit n ∷ a ∷ b ∷ c ∷ []) f h = refl
for_four ts f h = absurd cc

for_numbers : (ts : List TypeTree) (f : ℕ → ℕ → TypeTree → TermTree) → IsSome (twice_sized ts f) → length ts ≡ 3
for_numbers (nat_lit n ∷ nat_lit m ∷ a ∷ []) f h = refl
for_numbers ts f h = absurd cc

pub counted : (row : Row) (ts : List TypeTree) (m : ℕ) → IsSome (body_of row ts) → m ≡ length (parameters (row_type row)) → length ts + m ≡ asked_for (row_type row)
counted (Mapped kind) ts m h q = let n = for_three ts _ h in let p : m ≡ 2 = q in let sum : length ts + m ≡ 5 = omega (arith, n, p) in sum
counted (Zipped kind) ts m h q = let n = for_four ts _ h in let p : m ≡ 3 = q in let sum : length ts + m ≡ 7 = omega (arith, n, p) in sum
counted (FoldedLeft kind) ts m h q = let n = for_three ts _ h in let p : m ≡ 3 = q in let sum : length ts + m ≡ 6 = omega (arith, n, p) in sum
counted (FoldedRight kind) ts m h q = let n = for_three ts _ h in let p : m ≡ 3 = q in let sum : length ts + m ≡ 6 = omega (arith, n, p) in sum
counted (Generated kind) ts m h q = let n = for_numbers ts _ h in let p : m ≡ 1 = q in let sum : length ts + m ≡ 4 = omega (arith, n, p) in sum
counted (Replicated kind) ts m h q = let n = for_two ts _ h in let p : m ≡ 1 = q in let sum : length ts + m ≡ 3 = omega (arith, n, p) in sum
counted (Appended kind) ts m h q = let n = for_numbers ts _ h in let p : m ≡ 2 = q in let sum : length ts + m ≡ 5 = omega (arith, n, p) in sum
counted (Concatenated kind) ts m h q = let n = for_numbers ts _ h in let p : m ≡ 1 = q in let sum : length ts + m ≡ 4 = omega (arith, n, p) in sum
counted (Taken kind) ts m h q = let n = for_numbers ts _ h in let p : m ≡ 1 = q in let sum : length ts + m ≡ 4 = omega (arith, n, p) in sum
counted (Dropped kind) ts m h q = let n = for_numbers ts _ h in let p : m ≡ 1 = q in let sum : length ts + m ≡ 4 = omega (arith, n, p) in sum
counted (Reversed kind) ts m h q = let n = for_two ts _ h in let p : m ≡ 1 = q in let sum : length ts + m ≡ 3 = omega (arith, n, p) in sum
counted (Rotated kind) ts m h q = let n = for_numbers ts _ h in let p : m ≡ 1 = q in let sum : length ts + m ≡ 4 = omega (arith, n, p) in sum
counted Replaced ts m h q = let n = for_numbers ts _ h in let p : m ≡ 3 = q in let sum : length ts + m ≡ 6 = omega (arith, n, p) in sum
counted ElementAt ts m h q = let n = for_numbers ts _ h in let p : m ≡ 2 = q in let sum : length ts + m ≡ 5 = omega (arith, n, p) in sum
counted (Binary x) ts m h q = absurd cc
counted (WideSum x) ts m h q = absurd cc
counted (WideProduct x) ts m h q = absurd cc
counted (Unary x) ts m h q = absurd cc
counted (Shift x) ts m h q = absurd cc
counted (Compare x) ts m h q = absurd cc
counted (Extend x) ts m h q = absurd cc
counted (Truncate x) ts m h q = absurd cc
counted Cut ts m h q = absurd cc
counted Joined ts m h q = absurd cc
counted Reduce ts m h q = absurd cc
counted (Packed x) ts m h q = absurd cc
counted (Unpacked x) ts m h q = absurd cc
counted Mapping ts m h q = absurd cc
counted Applying ts m h q = absurd cc
counted Constant ts m h q = absurd cc
counted Delay ts m h q = absurd cc
counted Memory ts m h q = absurd cc
counted Crossing ts m h q = absurd cc
counted (Element kind) ts m h q = absurd cc
