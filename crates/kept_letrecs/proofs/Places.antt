-- Where bindings and their variables come where a letrec joins.
use Rattle.std.proofs.Common.{◌≡◌, ◌∙◌, ◌⊎◌, inl, inr, sym, ap, refl, ℕ, zero, suc, ◌+◌, ◌-◌, ◌<◌, ◌≤◌, true, Some, arith}
use Rattle.std.proofs.lemmas.Bool.{cases_lt, or_cases}
use Rattle.chw_types.specs.TypeMoves.{Renaming, raised}
use Rattle.chw_types.specs.TypeTree.{TypeTree}
use Rattle.chw_types.proofs.TypeMoved.{raised_below, raised_above}
use Rattle.chw_terms.specs.Occurs.{occurs, occurs_group}
use Rattle.chw_terms.specs.TermMoves.{rename, rename_group, exchanged}
use Rattle.chw_terms.specs.TermTree.{TermTree, Group, no_bindings, bind, size_of}
use Rattle.chw_terms.proofs.Renumbered.{exchanged_first, exchanged_next, exchanged_above}
use Rattle.chw_typing.specs.Groups.{joined, binding_at}
use Rattle.chw_typing.proofs.GroupParts.{second_of_joined}

-- with f bindings before the side, n from it on, and m that join: the places from the side on rise by
-- m, and so do the variables of those before it
pub old_variable : (f m n i : ℕ) → i < f + n → raised n m (f + n - 1 - i) ≡ f + (m + n) - 1 - raised f m i
old_variable f m n i l = by (cases_lt i f)
  where
    by : (i < f) ⊎ (f ≤ i) → raised n m (f + n - 1 - i) ≡ f + (m + n) - 1 - raised f m i
    by (inl h) =
        let sum : f + n - 1 - i + m ≡ f + (m + n) - 1 - i = omega (arith, h) in
        raised_above n m (f + n - 1 - i) (omega (arith, h)) ∙ sum ∙ ap (λ k. f + (m + n) - 1 - k) (sym (raised_below f m i h))
    by (inr h) =
        let sum : f + n - 1 - i ≡ f + (m + n) - 1 - (i + m) = omega (arith, h, l) in
        raised_below n m (f + n - 1 - i) (omega (arith, h, l)) ∙ sum ∙ ap (λ k. f + (m + n) - 1 - k) (sym (raised_above f m i h))

pub old_place : (f m n i : ℕ) → i < f + n → raised f m i < f + (m + n)
old_place f m n i l = by (cases_lt i f)
  where
    by : (i < f) ⊎ (f ≤ i) → raised f m i < f + (m + n)
    by (inl h) = let is = raised_below f m i h in omega (arith, h, is)
    by (inr h) = let is = raised_above f m i h in omega (arith, l, is)

-- the variables of the inner letrec
pub inner_variable : (f m n k : ℕ) → k < m → exchanged m n (m - 1 - k) ≡ f + (m + n) - 1 - (f + k)
inner_variable f m n k l =
    let sum : m - 1 - k + n ≡ f + (m + n) - 1 - (f + k) = omega (arith, l) in
    exchanged_first 0 m n (m - 1 - k) (omega arith) (omega (arith, l)) ∙ sum

-- and those from outside of it
pub outer_variable : (m n v : ℕ) → exchanged m n (v + m) ≡ raised n m v
outer_variable m n v = by (cases_lt v n)
  where
    by : (v < n) ⊎ (n ≤ v) → exchanged m n (v + m) ≡ raised n m v
    by (inl h) =
        let back : v + m - m ≡ v = omega arith in
        exchanged_next 0 m n (v + m) (omega arith) (omega (arith, h)) ∙ back ∙ sym (raised_below n m v h)
    by (inr h) = exchanged_above 0 m n (v + m) (omega (arith, h)) ∙ sym (raised_above n m v h)

-- a binding of a renamed group
pub renamed_at : (g : Group) (ρ : Renaming) (i : ℕ) (b : TypeTree × TermTree) → binding_at g i ≡ Some b → binding_at (rename_group g ρ) i ≡ Some (b.0, rename b.1 ρ)
unfolding rename
renamed_at no_bindings ρ i b q = absurd cc
renamed_at (bind u y g) ρ zero b q =
    let same : (u, y) ≡ b = cc in
    ap (λ (b : TypeTree × TermTree). Some (b.0, rename b.1 ρ)) same
renamed_at (bind u y g) ρ (suc i) b q = renamed_at g ρ i b q

pub first_there : (g h : Group) (i : ℕ) (b : TypeTree × TermTree) → binding_at g i ≡ Some b → binding_at (joined g h) i ≡ Some b
first_there no_bindings h i b q = absurd cc
first_there (bind u y g) h zero b q = q
first_there (bind u y g) h (suc i) b q = first_there g h i b q

-- a binding of a group around a side, where k bindings come before the side: it stays, with its
-- variables renamed, or it is the side
pub kept_or_side : (front : Group) (t : TypeTree) (x y : TermTree) (back inner : Group) (ρ : Renaming) (k j : ℕ) (b : TypeTree × TermTree) → size_of inner ≡ k → binding_at (joined front (bind t x back)) j ≡ Some b
    → (binding_at (joined (rename_group front ρ) (joined inner (bind t y (rename_group back ρ)))) (raised (size_of front) k j) ≡ Some (b.0, rename b.1 ρ)) ⊎ ((j ≡ size_of front) × (b.1 ≡ x))
unfolding rename
kept_or_side no_bindings t x y back inner ρ k zero b s q = let side : b.1 ≡ x = cc in inr (refl, side)
kept_or_side no_bindings t x y back inner ρ k (suc j) b s q =
    let place : suc j + k ≡ size_of inner + suc j = omega (arith, s) in
    inl (ap (binding_at (joined inner (bind t y (rename_group back ρ)))) place ∙ second_of_joined inner (bind t y (rename_group back ρ)) (suc j) ∙ renamed_at back ρ j b q)
kept_or_side (bind u z g) t x y back inner ρ k zero b s q =
    let same : (u, z) ≡ b = cc in
    inl (ap (λ (b : TypeTree × TermTree). Some (b.0, rename b.1 ρ)) same)
kept_or_side (bind u z g) t x y back inner ρ k (suc j) b s q = elim (kept_or_side g t x y back inner ρ k j b s q) [
  | inl kept ↦ inl kept
  | inr side ↦ inr (ap suc side.0, side.1)
]

-- a right side of a group in which a variable occurs
pub record HasSideWith (g : Group) (v : ℕ) : Type 0 where
  pub place : ℕ
  pub binding : TypeTree × TermTree
  pub is : binding_at g place ≡ Some binding
  pub within : place < size_of g
  pub there : occurs binding.1 v ≡ true

pub side_with : (g : Group) (v : ℕ) → occurs_group g v ≡ true → HasSideWith g v
unfolding occurs
side_with no_bindings v o = absurd cc
side_with (bind u y g) v o = elim (or_cases (occurs y v) (occurs_group g v) o) [
  | inl here ↦ record { place = 0; binding = (u, y); is = refl; within = omega arith; there = here }
  | inr behind ↦ let more = side_with g v behind in let l = more.within in record { place = suc more.place; binding = more.binding; is = more.is; within = omega (arith, l); there = more.there }
]
