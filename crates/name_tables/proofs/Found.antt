-- The place of a name is the first at which it stands.
use Rattle.std.proofs.Common.{◌≡◌, ℕ, zero, suc, ◌+◌, ◌<◌, Bool, true, false, cond, List, [], ◌∷◌, Option, Some, None, refl, sym, ap, ◌∙◌, subst, arith, add-one}
use Rattle.std.specs.List.{slice_get}
use Rattle.std.specs.Option.{option_map}
use Rattle.std.specs.Str.{bytes_eq}
use Rattle.std.proofs.lemmas.Bool.{false≢true}
use Rattle.std.proofs.lemmas.Option.{none-some, same_Some}
use Rattle.std.proofs.lemmas.Slice.Eq.{bytes_eq-Decides}
use Rattle.name_tables.specs.Names.{place_of}

-- the name stands at a place and at none before it
abbrev pub IsFirst : List (List ℕ) → List ℕ → ℕ → Type 0
IsFirst names name k = (slice_get names k ≡ Some name) × ((j : ℕ) → j < k → slice_get names j ≡ Some name → ⊥)

other : (n name : List ℕ) → bytes_eq name n ≡ false → Some n ≡ Some name → ⊥
other n name e h = false≢true (sym e ∙ (bytes_eq-Decides name n).1 (sym (same_Some n name h)))

first_here : (n : List ℕ) (names : List (List ℕ)) (name : List ℕ) → bytes_eq name n ≡ true → IsFirst (n ∷ names) name 0
first_here n names name e = (ap (λ x. Some x) (sym ((bytes_eq-Decides name n).0 e)), λ j lt at. absurd (omega arith))

first_later : (n : List ℕ) (names : List (List ℕ)) (name : List ℕ) (p : ℕ) → bytes_eq name n ≡ false → IsFirst names name p → IsFirst (n ∷ names) name (p + 1)
first_later n names name p e first = (rw add-one first.0, before)
  where
    before : (j : ℕ) → j < p + 1 → slice_get (n ∷ names) j ≡ Some name → ⊥
    before zero lt at = other n name e at
    before (suc j) lt at = first.1 j (omega arith) at

pub place_is_first : (names : List (List ℕ)) (name : List ℕ) (k : ℕ) → place_of names name ≡ Some k → IsFirst names name k
place_is_first [] name k e = absurd (none-some k e)
place_is_first (n ∷ names) name k e = by (bytes_eq name n) (place_of names name) refl refl (place_is_first names name) e
  where
    by : (b : Bool) (o : Option ℕ) → bytes_eq name n ≡ b → place_of names name ≡ o → ((p : ℕ) → place_of names name ≡ Some p → IsFirst names name p)
        → cond b (Some 0) (option_map (λ (p : ℕ). p + 1) o) ≡ Some k → IsFirst (n ∷ names) name k
    by true o same is rest h = subst (IsFirst (n ∷ names) name) (same_Some 0 k h) (first_here n names name same)
    by false None same is rest h = absurd (none-some k h)
    by false (Some p) same is rest h = subst (IsFirst (n ∷ names) name) (same_Some (p + 1) k h) (first_later n names name p same (rest p is))

pub no_place : (names : List (List ℕ)) (name : List ℕ) → place_of names name ≡ None → (j : ℕ) → slice_get names j ≡ Some name → ⊥
no_place [] name e j at = none-some name at
no_place (n ∷ names) name e j at = by (bytes_eq name n) (place_of names name) refl refl (no_place names name) e j at
  where
    by : (b : Bool) (o : Option ℕ) → bytes_eq name n ≡ b → place_of names name ≡ o → (place_of names name ≡ None → (j : ℕ) → slice_get names j ≡ Some name → ⊥)
        → cond b (Some 0) (option_map (λ (p : ℕ). p + 1) o) ≡ None → (j : ℕ) → slice_get (n ∷ names) j ≡ Some name → ⊥
    by true o same is rest h j at = none-some 0 (sym h)
    by false (Some p) same is rest h j at = none-some (p + 1) (sym h)
    by false None same is rest h zero at = other n name same at
    by false None same is rest h (suc j) at = rest is j at
